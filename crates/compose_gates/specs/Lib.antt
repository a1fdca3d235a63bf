-- The gates and latches of all witnesses, linked by composed variables.
pub mod Inner
