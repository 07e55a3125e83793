pub mod Lookups
pub mod Places
pub mod Kept
pub mod Scans
