pub mod Sets
pub mod Known
pub mod Declaring
pub mod Readers
