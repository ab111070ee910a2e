mod SettlingLemmas
mod StartLemmas
pub mod TallyLemmas
pub mod PassesLaws
mod TurnLemmas
mod DownLemmas
pub mod LegalLaws
pub mod EndLemmas
