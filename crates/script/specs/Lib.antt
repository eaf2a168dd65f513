pub mod Sayings
pub mod Grammar
pub mod Alike
pub mod Answers
pub mod Scripts
pub mod Account
pub mod Laws
