pub mod Elements
pub mod Changes
