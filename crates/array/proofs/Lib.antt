pub mod Facts
pub mod Rules
