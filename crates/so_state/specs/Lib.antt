pub mod States
pub mod Fault
pub mod Rules
pub mod Plan
pub mod Padded
pub mod Memory
pub mod Choice
