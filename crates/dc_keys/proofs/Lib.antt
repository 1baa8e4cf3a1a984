pub mod Histories
pub mod KeySums
mod SignedSums
pub mod StationKeys
mod PadSums
