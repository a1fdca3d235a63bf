-- Laws of merging.
pub mod WordLaws
pub mod BaseLaws
pub mod ClearLaws
pub mod LeafLaws
pub mod LatchLaws
pub mod GateLaws
pub mod JointLaws
pub mod DefineLaws
pub mod PartsLaws
pub mod LentLaws
pub mod CollectLaws
pub mod AddLaws
pub mod CallLaws
