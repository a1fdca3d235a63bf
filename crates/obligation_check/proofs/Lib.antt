pub mod BoundaryLaws
pub mod OutcomeLaws
