pub mod Words
pub mod Options
pub mod Commands
pub mod Sentences
pub mod Summary
pub mod Loads
pub mod Answers
pub mod Exact
