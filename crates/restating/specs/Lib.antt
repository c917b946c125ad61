pub mod Restatement
