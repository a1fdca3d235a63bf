-- One step of a transition model (R6).
pub mod Step
pub mod Inner
