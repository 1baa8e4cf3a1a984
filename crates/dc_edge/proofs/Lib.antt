pub mod PutLemmas
pub mod Rest
pub mod WireLemmas
