pub mod TurnLaws
pub mod Ranks
