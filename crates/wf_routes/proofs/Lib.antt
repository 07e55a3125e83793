pub mod Allowed
pub mod Found
pub mod MadeLemmas
pub mod Order
pub mod ParameterLemmas
pub mod QueryLemmas
pub mod Tokens
pub mod Walk
