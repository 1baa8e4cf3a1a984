pub mod Steerings
pub mod Counting
pub mod SteeringText
pub mod Laws
