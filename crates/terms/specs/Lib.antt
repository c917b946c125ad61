pub mod Numbers
pub mod Words
pub mod Refusals
pub mod Standings
pub mod Limits
pub mod Check
pub mod Days
