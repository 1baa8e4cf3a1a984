pub mod Steps
pub mod Parts
pub mod Station
pub mod Reading
pub mod Files
pub mod Settled
