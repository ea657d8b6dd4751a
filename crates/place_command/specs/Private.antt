pub mod Placing
pub mod Endings
