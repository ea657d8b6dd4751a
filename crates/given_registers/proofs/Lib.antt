pub mod Apart
pub mod Rows
pub mod OneChoice
pub mod OneAnswer
pub mod Laws
pub mod Steps
pub mod Checks
