pub mod GrowLemmas
pub mod OperateLemmas
pub mod FoundLemmas
mod MadeLemmas
pub mod BesideLemmas
pub mod DecidedLemmas
