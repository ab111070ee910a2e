pub mod CarryingLaws
pub mod SeenLemmas
pub mod PayingLemmas
