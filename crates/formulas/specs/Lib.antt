pub mod Starts
pub mod Bodies
pub mod Outcomes
pub mod Expressions
pub mod Formulas
pub mod Parsers
