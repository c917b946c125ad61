pub mod Seats
pub mod Entered
