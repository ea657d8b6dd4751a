pub mod Words
pub mod Allotting
