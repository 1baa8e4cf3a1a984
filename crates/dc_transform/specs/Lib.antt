pub mod Roots
pub mod Halves
