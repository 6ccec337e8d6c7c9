pub mod Ways
pub mod Short
