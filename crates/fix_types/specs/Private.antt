pub mod Scopes
pub mod Answers
pub mod Plans
pub mod Choosing
pub mod ItemLists
pub mod FunctionParts
