pub mod Ways
pub mod Blocks
pub mod Promises
