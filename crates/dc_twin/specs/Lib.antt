pub mod Faults
pub mod Laws
pub mod Demands
pub mod Edges
pub mod TwinnedKeys
pub mod Twinned
