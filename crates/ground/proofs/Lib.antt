pub mod Asks
pub mod Keeps
pub mod Stops
pub mod Every
pub mod Demand3
pub mod Promises
