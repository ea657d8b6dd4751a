pub mod Placings
pub mod OneByOne
pub mod OneFault
