pub mod PutSoFar
pub mod FillLemmas
pub mod GatherLemmas
