pub mod Coalition
pub mod Logs
pub mod Trial
pub mod View
