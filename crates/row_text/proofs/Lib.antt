pub mod PieceLaws
pub mod PrintLaws
pub mod MadeLaws
pub mod RowLaws
pub mod Examples
