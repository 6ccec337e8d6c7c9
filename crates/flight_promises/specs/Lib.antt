pub mod Told
pub mod Flights
pub mod Sendings
pub mod Fitting
pub mod Shown
