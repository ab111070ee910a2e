pub mod MarkLaws
pub mod NumberLaws
pub mod PairLaws
pub mod RootLaws
pub mod SweepLaws
pub mod CountLaws
pub mod LevelSteps
pub mod InsideSteps
