pub mod Logging
pub mod Racing
