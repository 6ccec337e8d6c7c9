pub mod GroundTurns
pub mod AirTurns
