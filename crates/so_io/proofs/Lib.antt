pub mod Known
pub mod Named
pub mod Pieces
pub mod Readings
pub mod Rising
