-- Clauses and assignments (R12.1, R12.2, R11.6), and the simplifier (R3).
pub mod Clauses
pub mod Simplified
pub mod Inner
