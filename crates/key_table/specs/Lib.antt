-- The table that finds a gate by its operands.
pub mod Inner
