pub mod Relations
pub mod Declarations
pub mod Free
pub mod Signatures
