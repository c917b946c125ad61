-- What receipts and notices are, as the contracts cite it.
pub mod Output
pub mod Notices
pub mod Receipts
