pub mod GivenUnits
pub mod Placings
pub mod Fitting
pub mod Staged
pub mod OneFault
pub mod OwnPlaces
pub mod PlansAt
mod WorkedPlaces
mod WorkedFaults
