pub mod ListSteps
pub mod RoundText
pub mod KnownPads
pub mod ViewText
pub mod EntryLines
pub mod TrialText
