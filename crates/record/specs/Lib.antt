pub mod Records
pub mod Reading
pub mod Lassos
pub mod Writing
