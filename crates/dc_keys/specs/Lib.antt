pub mod Pads
pub mod StationPads
