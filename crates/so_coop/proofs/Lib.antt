pub mod AdmissionLaws
pub mod AgentLaws
pub mod CountLaws
pub mod LeavingLaws
