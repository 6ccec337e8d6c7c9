pub mod Endings
pub mod Trace
pub mod Playing
