pub mod Pieces
pub mod Making
