pub mod Walk
pub mod Spectrum
pub mod NetKeys
