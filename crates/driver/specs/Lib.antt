pub mod Rig
pub mod Status
pub mod Cycles
pub mod Sound
pub mod Notes
pub mod Calls
pub mod Steps
pub mod ProofOfLawful
