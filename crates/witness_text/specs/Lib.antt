-- The header, the latch lines and the symbol lines of a witness text (R4).
pub mod Header
pub mod LatchLines
pub mod Symbols
pub mod Inner
