-- For the contracts of inner functions; no promise of an export names these.
pub mod Claims
pub mod Kinds
pub mod Filling
