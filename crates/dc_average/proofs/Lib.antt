mod ItemLemmas
mod TakeLemmas
mod StackLemmas
