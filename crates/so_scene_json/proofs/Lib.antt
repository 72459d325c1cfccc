pub mod Built
pub mod Finished
pub mod Reading
