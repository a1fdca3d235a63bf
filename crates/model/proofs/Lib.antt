-- Laws of the transition model.
pub mod CountLaws
pub mod DefineLaws
pub mod MarkingLaws
pub mod CheckedLaws
pub mod ValueLaws
pub mod WordsLaws
pub mod Examples
pub mod MemoryLaws
