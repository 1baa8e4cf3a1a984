pub mod Generator
pub mod Head
pub mod Reading
pub mod SeedReading
pub mod Chunks
