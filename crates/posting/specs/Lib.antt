pub mod Sides
pub mod Postable
