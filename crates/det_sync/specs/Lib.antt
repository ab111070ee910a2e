pub mod CutNets
pub mod Wishes
pub mod Rounds
pub mod Descent
