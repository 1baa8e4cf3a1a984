pub mod Positions
pub mod FirstAbove
pub mod ReaderTests
mod Rows
mod LimitRows
mod Digits
pub mod GroupLemmas
mod WordBytes
pub mod NumberText
pub mod WordText
pub mod HexDigits
pub mod SymbolText
