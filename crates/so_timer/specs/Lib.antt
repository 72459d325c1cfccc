pub mod Heap
pub mod Index
pub mod Slots
pub mod Timers
