pub mod Spelled
pub mod Described
pub mod Allowed
pub mod OneNet
mod Worked
