pub mod Lines
pub mod States
pub mod Codes
pub mod Rounds
pub mod Queues
pub mod Timers
pub mod Coops
pub mod Deliveries
