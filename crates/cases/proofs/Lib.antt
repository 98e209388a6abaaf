pub mod FirstKind
pub mod Results
pub mod Pairs
