pub mod Searches
pub mod Converse
pub mod OneMore
pub mod Wrong
