pub mod Numerals
pub mod Words
pub mod Places
pub mod CompileWords
