pub mod Names
pub mod Lookups
