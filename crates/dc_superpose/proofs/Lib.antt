mod Rows
pub mod Symbols
pub mod Spelling
pub mod Rounds
mod Flags
mod HubLemmas
