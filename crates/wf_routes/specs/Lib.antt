pub mod Asked
pub mod Laws
pub mod Made
pub mod Paths
pub mod Queries
pub mod Table
pub mod Target
