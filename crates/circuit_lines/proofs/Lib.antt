-- What is proved of the functions that take the section lines of both readers.
pub mod NumbersLaws
pub mod OneLaws
pub mod HeaderLaws
pub mod GateLaws
pub mod LiteralLaws
pub mod Examples
