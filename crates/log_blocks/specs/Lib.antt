pub mod Block
pub mod Log
pub mod Play
pub mod Record
pub mod Places
pub mod Tapes
