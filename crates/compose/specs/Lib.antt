-- The composer (R8), and its promise with demand 3 (R11).
pub mod Promise
pub mod Inner
