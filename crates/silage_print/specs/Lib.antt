pub mod Precedence
pub mod Text
pub mod ReadAgain
pub mod Parentheses
pub mod Private
