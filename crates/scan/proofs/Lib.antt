pub mod SpanLaws
pub mod BlockLaws
pub mod AllowedLaws
pub mod SameLaws
pub mod Examples
