pub mod Hands
pub mod Limits
