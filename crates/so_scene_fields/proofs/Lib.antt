pub mod Args
pub mod Ends
pub mod Numbers
pub mod Runs
