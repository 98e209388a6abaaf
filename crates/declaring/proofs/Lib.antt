pub mod Strays
pub mod Turns
