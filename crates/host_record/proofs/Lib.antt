pub mod Puts
pub mod Loads
pub mod Ways
pub mod Promises
