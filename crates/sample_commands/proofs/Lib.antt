pub mod Keeping
mod Examples
pub mod Opening
pub mod EarlyEnds
pub mod Simulating
pub mod Solving
