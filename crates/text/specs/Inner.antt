-- For the contracts of inner functions; no promise of an export names these.
pub mod Fronts
pub mod PlainDigits
