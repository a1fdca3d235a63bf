-- Laws of the transition reader.
pub mod GateLaws
pub mod StartLaws
pub mod ModelLaws
pub mod ReadLaws
pub mod ValidLaws
pub mod Examples
