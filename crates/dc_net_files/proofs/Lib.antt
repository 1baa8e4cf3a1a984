pub mod NeededLemmas
pub mod GaveLemmas
pub mod EndedLemmas
pub mod StreamLemmas
pub mod PartsLemmas
pub mod StationLemmas
pub mod NetLemmas
pub mod SettledLemmas
