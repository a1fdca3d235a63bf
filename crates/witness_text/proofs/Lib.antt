-- What is proved of the functions that take the header, the latch lines and the symbol lines.
pub mod CountLaws
pub mod HeaderLaws
pub mod LatchLaws
pub mod SymbolLaws
