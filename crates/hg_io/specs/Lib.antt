pub mod End
pub mod AnySink
pub mod AnySource
pub mod Faults
pub mod MemSink
pub mod MemSource
pub mod Place
pub mod Transfers
