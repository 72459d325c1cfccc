pub mod KeptLaws
pub mod GateLaws
pub mod PickLaws
pub mod CostLaws
pub mod DecideLaws
pub mod AddLaws
