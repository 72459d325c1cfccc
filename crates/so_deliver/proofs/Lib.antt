pub mod CommitLaws
pub mod PlanLaws
