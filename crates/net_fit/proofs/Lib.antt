pub mod Steps
pub mod Answers
pub mod Widths
pub mod Joined
