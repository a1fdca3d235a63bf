-- R9.13 and R9.14 as the functions check them.
pub mod Inner
