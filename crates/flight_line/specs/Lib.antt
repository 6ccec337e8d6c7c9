pub mod Users
pub mod GroundUsers
pub mod AirUsers
pub mod Boths
pub mod Lines
