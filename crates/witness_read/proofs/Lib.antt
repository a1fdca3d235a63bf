-- What is proved of the witness reader.
pub mod CheckingLaws
pub mod NumberedLaws
pub mod BodyLaws
pub mod SymbolSetLaws
pub mod TailLaws
pub mod RisingLaws
pub mod CommentLaws
pub mod AcceptedLaws
pub mod ReadLaws
pub mod Examples
pub mod OrderExamples
