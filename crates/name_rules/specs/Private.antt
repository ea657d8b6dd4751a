pub mod CallLists
pub mod Ranges
