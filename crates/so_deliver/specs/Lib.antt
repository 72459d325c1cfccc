pub mod Commit
pub mod Planned
