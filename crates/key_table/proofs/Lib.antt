-- What is proved of the functions that find keys.
pub mod PlaceLaws
pub mod HashLaws
pub mod PathLaws
pub mod HeldLaws
pub mod AddLaws
pub mod Examples
