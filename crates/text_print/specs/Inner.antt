-- For the contracts of inner functions; no promise of an export names these.
pub mod Prints
pub mod Lines
pub mod Elements
pub mod DigitPairs
