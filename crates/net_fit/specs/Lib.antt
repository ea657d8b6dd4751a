pub mod Names
pub mod Joints
