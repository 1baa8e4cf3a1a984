pub mod Fields
pub mod Phases
pub mod StandsFor
pub mod Laws
