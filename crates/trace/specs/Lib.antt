pub mod Tables
pub mod Traces
