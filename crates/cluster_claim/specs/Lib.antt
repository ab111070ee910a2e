pub mod Board
pub mod Steps
pub mod Workers
