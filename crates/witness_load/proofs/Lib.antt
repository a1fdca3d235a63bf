-- What is proved of the functions that load.
pub mod LineLaws
pub mod SectionLaws
pub mod StoreLaws
pub mod NameLaws
pub mod NamingLaws
pub mod BodyLaws
pub mod TextLaws
pub mod Examples
pub mod CallLaws
