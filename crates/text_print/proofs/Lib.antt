-- Laws of printed texts and of sets, laws for the functions' proofs, and worked examples.
pub mod PrintsLaws
pub mod DigitPairLaws
pub mod WriteLaws
pub mod LineLaws
pub mod ElementLaws
pub mod WordLaws
pub mod Examples
