pub mod LeadLaws
pub mod DrawLaws
pub mod WorseLaws
