pub mod Stream
pub mod Moving
