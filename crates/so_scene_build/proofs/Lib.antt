pub mod Codes
pub mod Counted
pub mod Grouped
pub mod Marked
pub mod Said
pub mod Uses
pub mod Written
