pub mod Sorts
pub mod Drafts
pub mod Problems
