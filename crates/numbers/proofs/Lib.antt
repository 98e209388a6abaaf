pub mod Laws
pub mod Lists
pub mod ListsSound
pub mod ListsComplete
pub mod Settles
