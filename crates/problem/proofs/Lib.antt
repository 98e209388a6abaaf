pub mod Inversions
pub mod Arities
pub mod Judging
pub mod Nths
