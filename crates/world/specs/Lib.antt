pub mod World
pub mod GroundTurns
pub mod AirTurns
