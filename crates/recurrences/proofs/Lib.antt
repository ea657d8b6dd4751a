pub mod Bools
pub mod Determined
pub mod Samples
pub mod Along
pub mod Unique
pub mod Exists
pub mod Reach
pub mod Heights
pub mod OneSolution
pub mod Kept
mod Examples
mod Renamed
