pub mod FaultLemmas
pub mod TransferLemmas
pub mod SliceLemmas
pub mod PenLemmas
