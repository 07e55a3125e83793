-- How a node is scheduled: words of private contracts.
pub mod Decimals
pub mod Starting
