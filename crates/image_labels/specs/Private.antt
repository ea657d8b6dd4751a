pub mod Checked
pub mod Settled
pub mod Written
