pub mod Samples
pub mod StreamEnds
pub mod Sim
pub mod Loaded
pub mod Eval
pub mod Streaming
pub mod Private
