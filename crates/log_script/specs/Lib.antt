pub mod Heard
pub mod Scripts
pub mod Notes
