pub mod AllowLemmas
pub mod DecideLemmas
pub mod PlannedLemmas
pub mod ViewLemmas
