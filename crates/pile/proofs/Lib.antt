pub mod Fitting
pub mod Sharing
pub mod Building
