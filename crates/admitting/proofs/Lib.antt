pub mod AtPlace
pub mod Ladder
pub mod Written
