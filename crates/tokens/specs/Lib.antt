pub mod Classes
pub mod Lexing
pub mod Digits
pub mod Items
pub mod Cursors
pub mod Outcomes
