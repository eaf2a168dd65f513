pub mod Erases
pub mod BlockMaps
pub mod Identities
pub mod Limits
pub mod Programs
pub mod Sequences
pub mod Statuses
