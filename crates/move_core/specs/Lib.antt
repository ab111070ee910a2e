pub mod Stages
pub mod State
pub mod Events
pub mod Run
pub mod Balance
pub mod AtRest
