pub mod DelayLemmas
pub mod DueLemmas
pub mod NumberLemmas
pub mod RunLemmas
pub mod SumLemmas
