-- The lines that both readers of circuits take (R4, R5).
pub mod SectionLines
pub mod Inner
