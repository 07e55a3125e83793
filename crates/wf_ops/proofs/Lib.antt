pub mod PlaceLemmas
pub mod LastLemmas
pub mod RetryLemmas
