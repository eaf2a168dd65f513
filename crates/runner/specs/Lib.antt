pub mod Memory
pub mod Listing
