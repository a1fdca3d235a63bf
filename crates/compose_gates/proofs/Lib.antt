-- What is proved of the functions that link.
pub mod FirstLaws
pub mod KeyLaws
pub mod ShareLaws
pub mod TurnLaws
pub mod LatchLaws
pub mod DefineLaws
pub mod CallLaws
pub mod Examples
