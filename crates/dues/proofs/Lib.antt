pub mod Earliest
pub mod DueItems
