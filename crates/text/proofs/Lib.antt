pub mod Laws
pub mod Pages
pub mod Trip
pub mod Counting
pub mod Tables
pub mod Lengths
