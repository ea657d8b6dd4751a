pub mod Lacking
pub mod Kept
pub mod Moves
pub mod Rounds
pub mod Turns
