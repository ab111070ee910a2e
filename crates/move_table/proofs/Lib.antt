pub mod PlaceLaws
pub mod StepLaws
pub mod TellLaws
pub mod RoomLaws
pub mod RightLaws
pub mod AllowLaws
pub mod SeatLaws
pub mod ReadyLaws
pub mod CarryLaws
pub mod PassedLaws
pub mod MoveLaws
pub mod BeginLaws
pub mod CloseLaws
pub mod GatherLaws
pub mod EndLaws
pub mod ClaimedLaws
pub mod SharingLaws
pub mod PassesLaws
mod OrderLaws
mod LaidLaws
