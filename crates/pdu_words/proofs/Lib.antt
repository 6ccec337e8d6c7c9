pub mod Loops
pub mod ListedWords
pub mod Spelled
pub mod Whole
pub mod Short
