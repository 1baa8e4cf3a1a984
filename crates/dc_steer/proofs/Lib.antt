mod RangeSums
mod Lists
mod Products
mod NextChange
mod WholeChanges
mod FaultChain
mod HonestEnds
mod LaterRounds
mod LaterWalk
pub mod Faultless
mod Histories
mod Zipped
mod SteeredKeys
mod Steering
mod SteeringLines
mod SameWords
