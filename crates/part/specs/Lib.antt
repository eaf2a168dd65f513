pub mod Calls
pub mod InTheWay
pub mod Laws
pub mod Meaning
pub mod Neighbours
pub mod Standings
pub mod Words
