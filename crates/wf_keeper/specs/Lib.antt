pub mod Keeping
pub mod Keys
pub mod Memory
pub mod Rows
