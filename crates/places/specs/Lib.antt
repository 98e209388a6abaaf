pub mod Places
pub mod Asked
pub mod Members
