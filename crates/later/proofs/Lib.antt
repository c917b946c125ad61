pub mod OneCall
pub mod Confirms
pub mod Settles
