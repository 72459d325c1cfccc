pub mod Table
pub mod ActTable
pub mod Visits
pub mod Values
pub mod Acts
pub mod Numbers
pub mod Reads
