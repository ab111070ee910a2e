pub mod Places
pub mod Standing
pub mod Seen
pub mod Steps
pub mod Calls
pub mod Closing
