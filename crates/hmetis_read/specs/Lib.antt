pub mod Graph
pub mod Reads
pub mod Laws
pub mod Shares
