-- Laws of the layout.
pub mod HasLaws
pub mod RoomLaws
pub mod StageLaws
pub mod OriginLaws
pub mod ReadyLaws
pub mod LayLaws
