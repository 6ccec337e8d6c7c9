pub mod Events
pub mod Sent
pub mod Record
pub mod Answers
pub mod Aborts
pub mod Fresh
pub mod Clock
