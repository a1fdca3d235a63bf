-- What is proved of the functions that number and mark.
pub mod NumberLaws
pub mod AddLaws
pub mod CallLaws
pub mod Examples
