pub mod Numbers
pub mod Readers
pub mod Lists
pub mod Settled
