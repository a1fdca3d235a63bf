-- Laws of the functions that append the clauses that come before the claims (R7.2).
pub mod PredicateLaws
pub mod RepeatLaws
pub mod ClauseLaws
pub mod SourceLaws
pub mod GateLaws
pub mod BoundedLaws
