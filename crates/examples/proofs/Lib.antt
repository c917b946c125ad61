pub mod AlwaysOpenLaws
pub mod Works
pub mod Stages
pub mod Witnessed
