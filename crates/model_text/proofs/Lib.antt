-- What is proved of the functions that take the header and the latch lines.
pub mod LatchLaws
pub mod HeaderLaws
pub mod Examples
