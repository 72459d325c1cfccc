pub mod CodeBuilder
pub mod Groups
pub mod Defs
pub mod Build
pub mod Kept
