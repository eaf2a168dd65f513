pub mod AsTheSheetsSay
pub mod Bitwise
pub mod Placing
pub mod Filling
pub mod Wiping
pub mod Equal
pub mod Sets
