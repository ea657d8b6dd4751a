pub mod Boundary
pub mod Numbers
pub mod Private
pub mod Translation
pub mod TypeFaults
pub mod TypeRules
pub mod TypedTree
pub mod TypedValue
