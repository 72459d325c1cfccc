pub mod Joined
pub mod Mboxes
pub mod Passed
pub mod Shapes
