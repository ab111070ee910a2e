pub mod Rounds
pub mod Passes
pub mod Trace
pub mod Cycles
pub mod Deterministic
pub mod RoundLaws
pub mod RegionLaws
pub mod TraceLaws
