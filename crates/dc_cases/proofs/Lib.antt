pub mod SharedValues
mod LimitNumbers
pub mod OutsideCases
pub mod WorkedFiles
pub mod WithinLimits
pub mod WorkedNetRows
pub mod WorkedRules
pub mod WorkedRuns
pub mod WorkedSessions
pub mod WorkedStations
pub mod WorkedSteerings
pub mod WorkedTwins
mod NetWithinLimits
