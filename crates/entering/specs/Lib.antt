pub mod Enterable
