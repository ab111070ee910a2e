pub mod Carrying
pub mod Paying
