pub mod Midway
pub mod Moves
