pub mod Clocks
pub mod Elapsing
pub mod Granting
pub mod Lasting
pub mod Standings
