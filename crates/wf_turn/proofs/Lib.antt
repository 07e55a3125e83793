pub mod PlaceLemmas
pub mod ActLemmas
pub mod GrowLemmas
