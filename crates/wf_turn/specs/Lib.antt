pub mod Keeping
pub mod Growing
pub mod TurnFields
