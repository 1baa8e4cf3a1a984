pub mod PlainSums
pub mod Tallies
pub mod Shares
pub mod SentEpochs
pub mod Sessions
pub mod Undisturbed
pub mod Laws
