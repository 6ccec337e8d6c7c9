pub mod Asking
pub mod Outgoings
pub mod Own
