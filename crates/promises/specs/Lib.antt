pub mod Messages
pub mod Sides
pub mod Calls
pub mod Timers
pub mod Intervals
pub mod Air
