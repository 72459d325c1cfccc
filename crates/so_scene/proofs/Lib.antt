pub mod AgentLaws
pub mod FirstFault
pub mod LaneDispatchers
pub mod LaneLaws
pub mod Positions
pub mod RoundLaws
pub mod DispLaws
