pub mod Showing
pub mod Ending
