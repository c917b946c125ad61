pub mod Visiting
pub mod ClosedForm
