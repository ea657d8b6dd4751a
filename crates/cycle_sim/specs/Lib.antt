pub mod Microcode
pub mod Storage
pub mod InFlight
pub mod Machine
pub mod Order
pub mod Private
