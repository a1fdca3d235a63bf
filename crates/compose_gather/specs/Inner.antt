-- For the contracts of inner functions; no promise of an export names these.
pub mod Checking
pub mod Counts
pub mod Gathered
pub mod Names
