pub mod Loops
pub mod PrunedGraph
pub mod Private
