pub mod CommandLemmas
pub mod SpelledLemmas
pub mod ShelfLemmas
pub mod MakingLemmas
pub mod ReplayLemmas
pub mod AlteringLemmas
pub mod PlayingLemmas
pub mod HostingLemmas
pub mod TotalLemmas
pub mod TrialLemmas
pub mod RanLemmas
pub mod PromiseLemmas
pub mod LiveLemmas
pub mod WantedLemmas
pub mod TheoremLemmas
mod Rows
