pub mod Alike
pub mod RunLemmas
pub mod RoundLemmas
pub mod RisingLists
pub mod Agreeing
pub mod RunSizes
