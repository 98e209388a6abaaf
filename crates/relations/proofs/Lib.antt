pub mod Bounds
pub mod Made
pub mod Maps
pub mod Sizes
