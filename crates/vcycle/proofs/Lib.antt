pub mod CycleLaws
pub mod ThreeKinds
mod ClimbLemmas
pub mod CountLemmas
mod CyclingLemmas
