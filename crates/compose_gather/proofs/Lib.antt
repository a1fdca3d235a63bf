-- Laws of gathering.
pub mod TextLaws
pub mod NameLaws
pub mod CountLaws
pub mod RoomLaws
pub mod CheckLaws
pub mod BlockLaws
pub mod ShiftLaws
pub mod GatherLaws
pub mod LiteralLaws
pub mod TurnLaws
