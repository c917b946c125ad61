pub mod FirstDue
