pub mod Levels
pub mod Steps
pub mod Stacking
pub mod Knowing
pub mod Wholes
