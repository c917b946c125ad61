pub mod Rules
pub mod Raised
pub mod Laws
pub mod Turn
pub mod Minutes
pub mod FallingDue
