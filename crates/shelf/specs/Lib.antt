-- What the contracts of a shelf speak of.
pub mod Order
pub mod Contents
pub mod Due
