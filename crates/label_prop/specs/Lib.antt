pub mod Workers
pub mod LabelRounds
pub mod Runs
