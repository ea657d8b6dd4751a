pub mod Masks
pub mod Rings
pub mod Order
pub mod Program
pub mod Stands
