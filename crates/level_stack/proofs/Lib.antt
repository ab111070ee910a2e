pub mod StackLaws
pub mod DownLaws
