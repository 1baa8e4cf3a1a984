mod Lengths
mod Rereading
mod SameReading
mod ReaderTests
