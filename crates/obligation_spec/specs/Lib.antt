-- The clauses of the obligations (R7), when they are given (R9), and what they mean (R11).
pub mod Lists
pub mod Limits
pub mod Calls
pub mod Meaning
