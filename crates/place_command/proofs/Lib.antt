pub mod Ordinary
pub mod Made
pub mod Lines
pub mod Refusing
pub mod OneAnswer
