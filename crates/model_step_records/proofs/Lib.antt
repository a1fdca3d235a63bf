-- Gates as records and as words, and a slice that is lent again.
pub mod RecordLaws
pub mod Again
