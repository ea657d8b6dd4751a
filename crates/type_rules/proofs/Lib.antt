mod Examples
pub mod Kept
pub mod Literals
pub mod OwnTypes
pub mod SameValues
pub mod ShortNumbers
pub mod SignalTypes
pub mod SoundNames
pub mod Tests
pub mod TypedForms
pub mod TypedNodes
pub mod TypedRows
