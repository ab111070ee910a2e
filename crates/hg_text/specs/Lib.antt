pub mod Kept
pub mod Cut
