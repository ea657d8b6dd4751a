pub mod Delays
pub mod Numbers
pub mod Lines
pub mod Nodes
