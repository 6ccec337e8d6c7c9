pub mod Names
pub mod Watch
pub mod Moves
pub mod Tables
