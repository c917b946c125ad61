pub mod Admission
pub mod Writing
