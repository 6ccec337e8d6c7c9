pub mod Requests
pub mod Arrivals
pub mod Endings
pub mod Runs
