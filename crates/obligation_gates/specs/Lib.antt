-- Inner definitions of the clauses that come before the claims (R7.2).
pub mod Inner
