pub mod Schedulable
pub mod Problem
pub mod Parts
pub mod Order
pub mod Private
