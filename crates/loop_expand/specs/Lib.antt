pub mod KeepsProgram
pub mod GraphFor
pub mod FlatOf
pub mod Kept
pub mod Checked
pub mod Expanded
pub mod InTypes
pub mod Private
