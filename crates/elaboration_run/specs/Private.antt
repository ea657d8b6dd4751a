pub mod Lanes
pub mod Groups
pub mod EmptyLoops
pub mod TurnBlocks
pub mod Parts
pub mod Functions
pub mod States
