pub mod GraphLemmas
pub mod ForestLemmas
pub mod DistanceLemmas
pub mod ParentLemmas
pub mod WalkLemmas
pub mod BelowLemmas
pub mod UpwardLemmas
