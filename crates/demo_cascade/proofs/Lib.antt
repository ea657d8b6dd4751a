pub mod Spelling
pub mod CascadeProgram
