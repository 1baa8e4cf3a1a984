pub mod Reading
pub mod Sizes
pub mod Pieces
pub mod Presence
pub mod HubCore
pub mod HubSteps
