pub mod Shares
pub mod ChunkLaws
