-- The witness reader (R4), from the bytes of a text to its sections or the number of the first reason.
pub mod Sections
pub mod Names
pub mod Comments
pub mod Order
pub mod Reading
pub mod Inner
