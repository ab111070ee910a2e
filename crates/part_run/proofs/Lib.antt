pub mod TooFew
pub mod Written
pub mod FreeGraph
pub mod Flushed
pub mod Unplaced
pub mod Nonempty
pub mod WordLaws
mod CompletenessLaws
mod ModeLaws
pub mod LevelLemmas
pub mod ModeLemmas
mod GrowthLemmas
pub mod SettingBounds
pub mod NumberLaws
pub mod Reportable
pub mod TrialLemmas
