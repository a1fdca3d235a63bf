-- Leaves numbered, and literals marked, in lent words.
pub mod Inner
