pub mod HostDesk
pub mod Streams
