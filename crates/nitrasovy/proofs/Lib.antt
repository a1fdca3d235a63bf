-- Laws of the exported calls: which numbers they answer, and their promises of flat answers.
pub mod LiteralLaws
pub mod ReasonLaws
pub mod CallReasons
pub mod ModelLaws
pub mod WitnessLaws
pub mod MadeLaws
pub mod ComposedLaws
pub mod Examples
pub mod Table
