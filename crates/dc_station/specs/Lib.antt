pub mod Entries
pub mod Logs
pub mod Receiving
pub mod Sending
pub mod Hearing
pub mod State
pub mod StandsFor
