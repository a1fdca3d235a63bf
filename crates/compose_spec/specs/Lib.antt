-- The composition of witnesses (R8), its text, the call, and what a composition means.
pub mod Mapping
pub mod Numbering
pub mod Sharing
pub mod Composing
pub mod Printing
pub mod Calling
pub mod Meaning
pub mod Inner
