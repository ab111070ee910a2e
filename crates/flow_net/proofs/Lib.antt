pub mod LevelLaws
pub mod ConservationLaws
pub mod CutLaws
pub mod NearLaws
