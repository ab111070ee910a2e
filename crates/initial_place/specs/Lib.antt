pub mod Cheapest
pub mod Drawn
pub mod Leading
pub mod NoWorse
