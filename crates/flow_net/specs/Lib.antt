pub use Rattle.hg_defs.specs.Sums
pub mod Flow
pub mod Residual
pub mod Ready
pub mod Laws
