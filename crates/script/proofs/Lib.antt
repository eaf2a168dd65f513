pub mod Bytes
pub mod Printing
pub mod Cutting
pub mod Plain
pub mod Again
pub mod Standing
pub mod WholeAgain
