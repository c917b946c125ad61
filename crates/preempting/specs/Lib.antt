pub mod Visits
pub mod Giving
