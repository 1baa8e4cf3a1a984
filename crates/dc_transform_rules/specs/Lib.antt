pub mod Residues
pub mod Polynomials
pub mod Transforms
pub mod Laws
