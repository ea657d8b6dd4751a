pub mod Heights
pub mod ByHeight
pub mod Ports
pub mod Destinations
