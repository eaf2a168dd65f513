pub mod Rigs
pub mod ProofOfSound
