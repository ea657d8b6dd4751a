pub mod UnitSets
pub mod Kinds
pub mod Drivers
pub mod Wiring
pub mod Missing
pub mod Bindings
pub mod Problems
