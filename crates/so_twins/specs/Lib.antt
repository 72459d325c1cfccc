pub mod Classes
pub mod Echo
