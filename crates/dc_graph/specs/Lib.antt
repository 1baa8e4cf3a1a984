pub mod Graph
pub mod Faults
pub mod Images
pub mod ImageTexts
pub mod Forest
pub mod Walk
