pub mod Lexing
pub mod Parsing
pub mod Valid
pub mod Clear
