pub mod Pile
pub mod Sides
pub mod ProofOfLawful
