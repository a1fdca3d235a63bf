-- The header and the latch lines of a transition text (R5).
pub mod Header
pub mod ModelLines
pub mod Inner
