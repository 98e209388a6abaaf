pub mod Meanings
pub mod Sources
