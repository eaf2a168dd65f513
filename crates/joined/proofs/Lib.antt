pub mod Aiming
pub mod Asking
pub mod Fitting
pub mod Living
pub mod Refusing
pub mod Rows
pub mod Running
pub mod Whole
