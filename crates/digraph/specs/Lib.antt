pub mod Arcs
pub mod Private
