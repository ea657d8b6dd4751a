mod ZeroRows
mod Planned
mod NodeOrigins
mod ShortLifetimes
mod Outputs
mod TypedRows
mod InputRows
mod Reading
