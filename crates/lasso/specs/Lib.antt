pub mod Lassos
pub mod Values
