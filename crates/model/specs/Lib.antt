-- The transition model, its limits, and what its validation answers (R5); the values that its gate equations fix (R11.1, R11.4).
pub mod Circuit
pub mod Limits
pub mod Checked
pub mod Values
pub mod RecordWords
pub mod Inner
