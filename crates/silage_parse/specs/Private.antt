pub mod ParseTable
pub mod Machine
pub mod CommaLists
pub mod Parsed
pub mod Precedence
