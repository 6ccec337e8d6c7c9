pub mod Names
pub mod Watch
pub mod Moves
pub mod Intervals
pub mod Tables
