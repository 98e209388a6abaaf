pub mod Tabled
pub mod Packing
