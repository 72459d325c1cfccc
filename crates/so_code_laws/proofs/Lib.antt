pub mod TurnLaws
pub mod BodyLaws
pub mod PlanLaws
pub mod Checks
