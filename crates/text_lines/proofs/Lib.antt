pub mod Gathering
pub mod Pieces
pub mod Pulling
