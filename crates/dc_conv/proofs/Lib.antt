mod Blocks
mod Groups
mod Loops
mod Pieces
