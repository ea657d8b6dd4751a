pub mod Output
pub mod Reading
pub mod Streams
pub mod Machines
pub mod Evaluators
pub mod Private
