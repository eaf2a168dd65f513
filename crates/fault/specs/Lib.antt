pub mod Causes
pub mod Limits
pub mod Raising
