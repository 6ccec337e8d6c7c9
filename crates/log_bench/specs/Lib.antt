pub mod Shown
pub mod Logs
