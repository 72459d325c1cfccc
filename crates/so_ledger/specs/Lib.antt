pub mod Shapes
pub mod Classes
pub mod Kept
pub mod Gates
