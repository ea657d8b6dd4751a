pub mod Limits
pub mod Endings
pub mod Printing
pub mod Reading
pub mod Private
pub mod Sources
