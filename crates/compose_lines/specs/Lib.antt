-- The text of the composition, in the parts that are printed one after the other.
pub mod Inner
