pub mod Shown
pub mod Settings
pub mod Known
pub mod Members
pub mod Kept
