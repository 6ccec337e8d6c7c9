pub mod Fields
pub mod Lines
pub mod Entries
pub mod Replies
pub mod Trace
pub mod Playing
pub mod Rooms
