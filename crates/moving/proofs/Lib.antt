pub mod Bounds
pub mod SameView
pub mod EachDay
pub mod Walks
pub mod Midways
pub mod OnceSeated
pub mod FromSound
pub mod LedgerKeeps
