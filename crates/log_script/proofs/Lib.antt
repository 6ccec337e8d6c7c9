pub mod Fronts
pub mod Ways
pub mod Promises
pub mod Notes
pub mod After
pub mod Calls
pub mod Logs
