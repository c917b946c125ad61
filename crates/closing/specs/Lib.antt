pub mod LastClosed
