pub mod DayTests
pub mod SameRecord
