pub mod Piping
