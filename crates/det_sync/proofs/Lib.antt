pub mod CutLaws
pub mod WishLaws
pub mod GrantLaws
pub mod RoundLaws
pub mod LevelLaws
pub mod DescentLaws
pub mod TraceLaws
