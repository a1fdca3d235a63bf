-- Definitions on lists and words that every layer uses.
pub mod Answer
pub mod Parts
pub mod Tests
pub mod Words
pub mod Bits
pub mod Sets
pub mod Firsts
pub mod Quoted
pub mod Inner
