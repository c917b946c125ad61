pub mod LinedUp
pub mod Shortage
pub mod Size
