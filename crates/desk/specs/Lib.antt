pub mod Records
pub mod Opening
pub mod Desks
pub mod Soundness
pub mod DaySums
