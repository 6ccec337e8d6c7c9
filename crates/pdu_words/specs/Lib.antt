pub mod Names
pub mod Ways
pub mod Rows
pub mod CodeRows
pub mod AirRows
pub mod GroundRows
pub mod LineText
