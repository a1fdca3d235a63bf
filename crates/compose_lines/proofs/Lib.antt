-- Laws of the text.
pub mod HeaderLaws
pub mod GateLaws
pub mod PartLaws
pub mod Examples
