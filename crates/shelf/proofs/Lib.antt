-- Lemmas on shelves.
pub mod Slots
pub mod Lines
