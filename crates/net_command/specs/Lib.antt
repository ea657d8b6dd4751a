pub mod Ports
pub mod Processors
pub mod Nets
pub mod Net
pub mod Private
