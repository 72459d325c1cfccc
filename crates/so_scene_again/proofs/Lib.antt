pub mod ObjectLaws
pub mod Kept
pub mod AgentLaws
pub mod CoopLaws
pub mod SceneLaws
