pub mod Scene
pub mod Finish
