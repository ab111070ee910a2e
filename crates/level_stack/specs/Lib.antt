pub mod Stack
pub mod Down
