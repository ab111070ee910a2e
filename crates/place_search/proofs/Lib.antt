pub mod InnerLaws
