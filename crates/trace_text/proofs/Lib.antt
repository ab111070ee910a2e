pub mod LoadLemmas
pub mod TextLemmas
pub mod CarryingLemmas
