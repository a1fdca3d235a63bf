-- The sections of an accepted witness text as words in lent memory.
pub mod Inner
