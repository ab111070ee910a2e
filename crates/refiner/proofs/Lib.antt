pub mod RaceLaws
pub mod FreshLaws
