pub mod Store
pub mod Changes
pub mod Grown
pub mod Found
pub mod Operations
