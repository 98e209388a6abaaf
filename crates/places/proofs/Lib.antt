pub mod Numbering
pub mod Totals
