pub mod BoardLaws
pub mod CandidateLaws
pub mod DepartureLaws
pub mod FlagLaws
pub mod OrderLaws
pub mod RangeLaws
pub mod TableLaws
