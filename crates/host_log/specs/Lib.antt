pub mod Recording
pub mod Playing
