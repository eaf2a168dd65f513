pub mod Jobs
pub mod OneBlock
pub mod Writing
pub mod Reading
pub mod Passing
