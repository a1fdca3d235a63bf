-- Texts printed into a lent buffer, or only measured, and sets of numbers as lists.
pub mod Inner
