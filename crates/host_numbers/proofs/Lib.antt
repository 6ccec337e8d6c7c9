pub mod Puts
pub mod Others
