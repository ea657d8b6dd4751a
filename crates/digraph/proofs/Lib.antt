pub mod Arcs
pub mod WalkSteps
pub mod JoinSteps
pub mod WalkEnds
