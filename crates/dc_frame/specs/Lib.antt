pub mod Frames
pub mod Reading
pub mod Reader
pub mod Laws
