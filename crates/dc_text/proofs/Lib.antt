mod FirstLine
mod NextLine
pub mod LineByLine
mod ListLines
pub mod PayloadDigits
mod ByTable
mod Positions
mod HexDigits
