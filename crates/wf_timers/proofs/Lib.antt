pub mod DateLemmas
pub mod DueLemmas
pub mod LeastLemmas
pub mod MarkLemmas
