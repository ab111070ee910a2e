pub mod AccountLaws
pub mod SeatLaws
pub mod StepLaws
pub mod BoardLaws
