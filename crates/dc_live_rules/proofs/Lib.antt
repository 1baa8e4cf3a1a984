pub mod Rows
pub mod RunWords
pub mod LiveRounds
pub mod RunsLive
pub mod RecordedWords
