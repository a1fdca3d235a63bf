-- Laws of the composer.
pub mod RoomLaws
pub mod CallLaws
pub mod ChainLaws
pub mod TopLaws
pub mod LaidLaws
