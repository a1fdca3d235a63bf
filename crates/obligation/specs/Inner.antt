-- For the contracts of inner functions; no promise of an export names these.
pub mod Appended
pub mod ByClaim
pub mod Planned
