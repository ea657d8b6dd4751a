pub mod Frames
pub mod Unfolded
pub mod Solutions
pub mod Faults
pub mod Private
