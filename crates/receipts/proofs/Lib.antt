-- What the proofs of several functions share.
pub mod Writing
pub mod Telling
