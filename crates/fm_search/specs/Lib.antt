pub mod Standing
pub mod Possible
pub mod Logging
pub mod Opened
pub mod Memory
pub mod Workers
