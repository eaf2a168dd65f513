pub mod Tables
pub mod Playing
pub mod Listing
pub mod Promised
pub mod Worked
pub mod OnChip
