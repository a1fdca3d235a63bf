-- The exported calls: their flat answers and what they promise.
pub mod Reasons
pub mod FlatLiterals
pub mod FlatModels
pub mod FlatObligations
pub mod FlatWitnesses
pub mod FlatCompositions
pub mod Inner
