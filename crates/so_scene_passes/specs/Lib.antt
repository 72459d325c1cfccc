pub mod Scope
pub mod Shape
pub mod Twice
pub mod Known
