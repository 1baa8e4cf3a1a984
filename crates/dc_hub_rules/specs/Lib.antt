pub mod Hubs
pub mod Laws
