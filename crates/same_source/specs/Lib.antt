pub mod Same
pub mod OnPath
pub mod Private
