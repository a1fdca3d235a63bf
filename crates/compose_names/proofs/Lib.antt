-- Laws of symbol lines.
pub mod PieceLaws
pub mod WalkLaws
pub mod WitnessLaws
pub mod FirstLaws
pub mod RowLaws
pub mod EntryLaws
pub mod SymbolLaws
pub mod Examples
