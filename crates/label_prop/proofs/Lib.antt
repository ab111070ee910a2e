pub mod IdleLaws
pub mod PassLaws
pub mod SweepLaws
pub mod SharingLaws
pub mod SettledLaws
