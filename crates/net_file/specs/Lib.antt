pub mod Spelling
pub mod Table
pub mod Described
pub mod NetRules
pub mod Private
