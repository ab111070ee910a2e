pub mod Cycles
pub mod CycleLaws
pub mod Climb
