pub mod Command
pub mod Named
pub mod WordLists
pub mod Compile
