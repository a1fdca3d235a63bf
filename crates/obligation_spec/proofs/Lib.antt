-- Laws of the obligations: demand 3 (R11) for rows, and R7.7 for the terminal list.
pub mod MatchLaws
pub mod BodyLaws
pub mod LowLaws
pub mod ElementLaws
pub mod ClaimLaws
pub mod RowLaws
pub mod TerminalLaws
pub mod AcceptedLaws
pub mod MeaningLaws
pub mod RefuteLaws
pub mod Table
pub mod AnchorLaws
pub mod Examples
pub mod WorkedRows
pub mod LimitExamples
pub mod ReturnedLaws
