pub mod Complaints
pub mod Taking
pub mod Setups
