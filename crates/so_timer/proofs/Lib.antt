pub mod EarliestLaws
pub mod HeapLaws
pub mod IndexLaws
pub mod NextLaws
pub mod ScanLaws
pub mod TimerLaws
