pub mod Periodic
