pub mod Rows
pub mod Accounts
pub mod Promises
pub mod Examples
pub mod Bench
