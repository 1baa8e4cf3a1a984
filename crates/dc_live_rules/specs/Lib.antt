pub mod LiveRuns
pub mod Laws
