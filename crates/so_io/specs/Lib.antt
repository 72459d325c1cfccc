pub mod Count
pub mod Files
pub mod Sink
pub mod Clock
pub mod MemFiles
pub mod MemSink
pub mod ListClock
