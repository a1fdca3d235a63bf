-- All witnesses side by side, as one circuit.
pub mod Inner
