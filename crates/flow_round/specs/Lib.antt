pub mod PairTurns
pub mod Laws
pub mod Waves
pub mod Fronts
