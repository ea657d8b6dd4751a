pub mod KnownNames
pub mod Callees
pub mod TreeRows
pub mod Takers
pub mod Strides
pub mod InsideItems
