pub mod Moving
pub mod Keeps
pub mod Every
pub mod Ends
pub mod Demand3
pub mod Promises
pub mod Cancels
