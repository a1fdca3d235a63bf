-- Laws of mapping.
pub mod MappingLaws
pub mod LoopLaws
pub mod WitnessLaws
pub mod AllLaws
