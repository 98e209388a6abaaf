pub mod One
pub mod Alike
