pub mod OnePlace
pub mod ShownPut
pub mod TwoPuts
pub mod OneLine
