pub mod Commands
pub mod Troubles
