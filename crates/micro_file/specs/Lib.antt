pub mod Layout
pub mod Hardware
pub mod Words
pub mod PackedWords
pub mod File
pub mod Faults
pub mod Private
