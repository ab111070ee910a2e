pub mod Steps
pub mod Pins
pub mod Gains
pub mod Loads
