-- Bytes of a text: where a run of them ends, which may stand in it, which are the same.
pub mod Spans
pub mod Allowed
pub mod Same
