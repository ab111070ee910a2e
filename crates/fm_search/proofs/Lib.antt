pub mod BesideLaws
pub mod PassLaws
pub mod PossibleLaws
pub mod TakenLaws
pub mod RaceLaws
pub mod LogLaws
pub mod SharingLaws
pub mod SingleLaws
