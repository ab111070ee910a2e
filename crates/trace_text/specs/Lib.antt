pub mod Lines
pub mod Fields
pub mod Evaluation
pub mod Summary
pub mod Rounds
pub mod Carrying
pub mod Report
