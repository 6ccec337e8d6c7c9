pub mod Lines
pub mod Inputs
pub mod Pulls
