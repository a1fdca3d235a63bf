-- The transition reader (R5), from the bytes of a text to the model or the number of the first reason.
pub mod Reading
pub mod Inner
