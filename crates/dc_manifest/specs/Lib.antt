pub mod Content
pub mod Fields
pub mod Reading
