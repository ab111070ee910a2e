pub mod KeptLaws
pub mod SwapLaws
pub mod OrderLaws
pub mod WaveLaws
pub mod TableLaws
pub mod FoundLaws
pub mod FrontLaws
