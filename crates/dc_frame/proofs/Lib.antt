pub mod Firsts
pub mod Readings
pub mod Readers
pub mod WrittenFrames
pub mod Growing
