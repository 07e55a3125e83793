pub mod DecimalLemmas
pub mod GrowthLemmas
pub mod ScheduleLemmas
