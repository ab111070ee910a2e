pub mod Start
pub mod Refined
pub mod Passing
pub mod Settled
pub mod RefinedLaws
