-- Inner definitions of the clauses of claims (R7.4).
pub mod Inner
