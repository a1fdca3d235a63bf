-- Laws of the flat answers.
pub mod PartLaws
pub mod FlatLaws
pub mod LoadLaws
