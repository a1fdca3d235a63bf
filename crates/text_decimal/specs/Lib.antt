-- The decimal digits of numbers, printed lines, and bytes written into a lent buffer.
pub mod Decimal
pub mod Printed
pub mod Inner
