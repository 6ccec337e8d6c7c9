pub mod Replies
pub mod Trace
