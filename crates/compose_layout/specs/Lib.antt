-- All that the composer reads of the witnesses, laid out in the work words.
pub mod Inner
