-- The witnesses checked, loaded, and gathered into joint lists.
pub mod Inner
