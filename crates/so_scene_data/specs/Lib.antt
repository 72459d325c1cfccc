pub mod Sources
pub mod ActData
pub mod Canonical
pub mod Fields
