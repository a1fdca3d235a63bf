-- The row program (R14).
pub mod RowProgram
pub mod Inner
