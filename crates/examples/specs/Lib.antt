pub mod AlwaysOpen
pub mod Worked
pub mod Witness
