pub mod View
pub mod Desk
pub mod Whole
pub mod Stored
pub mod MemDesk
pub mod Inputs
pub mod NeverFails
pub mod Private
