pub mod Filling
pub mod Listed
