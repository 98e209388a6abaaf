pub mod Known
pub mod States
