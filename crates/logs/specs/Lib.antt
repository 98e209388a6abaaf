pub mod Logs
pub mod Meanings
pub mod Told
pub mod Heads
