-- Numbers (R1), lines and fields of a text (R2), and which bytes are a text (R9.3).
pub mod Numbers
pub mod Lines
pub mod Fields
pub mod Literals
pub mod Texts
pub mod Inner
