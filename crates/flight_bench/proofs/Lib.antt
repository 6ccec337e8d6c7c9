pub mod Endings
pub mod Playing
pub mod Stands
pub mod Whole
