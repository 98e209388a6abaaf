pub mod Scans
pub mod Parses
pub mod Latest
pub mod Settles
pub mod Exact
