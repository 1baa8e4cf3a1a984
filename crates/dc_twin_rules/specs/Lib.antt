pub mod Twins
pub mod Shifts
pub mod Laws
