pub mod Places
pub mod Rejections
pub mod Answers
pub mod ProgramFlat
pub mod GraphOf
pub mod Private
