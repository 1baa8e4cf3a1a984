pub mod Accepted
pub mod Computing
pub mod InTurn
pub mod ItemsRead
pub mod Rising
