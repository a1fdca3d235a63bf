pub mod PromiseLaws
pub mod ListLaws
pub mod ReadyLaws
pub mod MakingLaws
pub mod RoomLaws
pub mod AssembleLaws
pub mod ClaimLaws
pub mod CallLaws
