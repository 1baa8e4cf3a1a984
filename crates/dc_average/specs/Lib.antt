pub mod Stacks
pub mod Items
pub mod StandsFor
pub mod Answers
