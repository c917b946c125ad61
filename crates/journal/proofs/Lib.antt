pub mod Sums
pub mod Conservation
