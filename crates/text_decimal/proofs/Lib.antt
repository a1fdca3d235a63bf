-- Laws of the digits, laws for the functions' proofs, and worked examples.
pub mod DecimalLaws
pub mod FigureLaws
pub mod ReadLaws
pub mod WritingLaws
pub mod PrintedLaws
pub mod BackLaws
pub mod Examples
