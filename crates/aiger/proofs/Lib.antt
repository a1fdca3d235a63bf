-- What is proved of circuits.
pub mod DefinedLaws
pub mod ExistLaws
pub mod UniqueLaws
pub mod SectionLaws
pub mod AnsweredLaws
pub mod Examples
