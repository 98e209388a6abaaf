pub mod Rows
pub mod Written
pub mod Taken
pub mod Sound
pub mod Complete
pub mod Settles
pub mod Exact
