mod FirstFault
mod Rising
mod Positions
pub mod Tables
pub mod WalkSteps
pub mod ForestProofs
