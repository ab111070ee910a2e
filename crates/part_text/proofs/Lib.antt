pub mod Texts
pub mod ReadLemmas
pub mod LineLemmas
pub mod PartLaws
