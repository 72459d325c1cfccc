pub mod Events
pub mod Tied
pub mod Picked
pub mod Counts
