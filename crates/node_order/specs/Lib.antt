pub mod Topological
pub mod Private
