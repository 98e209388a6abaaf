pub mod Places
pub mod Instants
pub mod Steps
pub mod Earlier
pub mod Clashes
pub mod Knowledge
pub mod Firsts
