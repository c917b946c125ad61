pub mod Stopping
pub mod DayPostings
pub mod OneVisit
pub mod AllVisits
pub mod Defenders
pub mod Closed
