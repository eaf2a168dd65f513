pub mod Pages
pub mod Reading
pub mod Burning
pub mod Pairs
pub mod Finding
pub mod Views
pub mod Seats
pub mod Laws
