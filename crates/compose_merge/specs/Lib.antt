-- The witnesses, laid out in the work words, merged into the composition.
pub mod Inner
