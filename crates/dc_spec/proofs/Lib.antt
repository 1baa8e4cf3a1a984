pub mod Booleans
pub mod ByteLemmas
pub mod GroupLemmas
pub mod InverseLemmas
pub mod ListLemmas
pub mod Options
pub mod SumLemmas
pub mod TextLemmas
pub mod WordLemmas
mod SpelledWords
