pub mod Listed
pub mod Joined
pub mod Depths
pub mod Floats
pub mod Written
