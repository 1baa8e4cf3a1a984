pub mod Agreement
pub mod Bags
pub mod Nets
pub mod Runs
pub mod SessionTexts
pub mod Laws
