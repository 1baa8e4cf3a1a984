pub mod Bursts
pub mod Epochs
pub mod Cycles
pub mod Grammar
pub mod Resolving
pub mod Stations
pub mod Laws
