pub mod Graphs
pub mod Forests
pub mod Laws
