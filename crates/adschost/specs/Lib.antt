pub mod Flatness
