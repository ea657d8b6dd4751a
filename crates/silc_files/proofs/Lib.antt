mod Examples
pub mod Results
pub mod Endings
pub mod Printed
