pub mod MadeLemmas
pub mod TextLemmas
pub mod GraphLemmas
pub mod GraphLaws
pub mod MadeLaws
