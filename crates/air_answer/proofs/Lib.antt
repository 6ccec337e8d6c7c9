pub mod Outgoings
pub mod Own
