pub mod Folds
pub mod Rounds
pub mod Packs
pub mod Turns
pub mod Beyond
pub mod Unpacks
