pub mod Heard
pub mod Texts
pub mod Short
pub mod Ways
pub mod Steps
pub mod Whole
pub mod Playing
pub mod Rooms
