-- What the obligations promise (R7, R16).
pub mod Promise
pub mod Inner
