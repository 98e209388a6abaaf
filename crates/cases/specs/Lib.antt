pub mod Lines
pub mod Hex
pub mod Kinds
pub mod Judgements
pub mod Answers
