pub mod Kept
pub mod Calls
pub mod Walks
pub mod Recorded
