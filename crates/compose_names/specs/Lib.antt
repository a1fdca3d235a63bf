-- Symbol lines of the composition, from words.
pub mod Inner
