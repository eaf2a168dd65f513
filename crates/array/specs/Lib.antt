pub mod Limits
pub mod Means
pub mod Making
pub mod ProofOfLawful
