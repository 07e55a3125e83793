pub mod FirstLemmas
pub mod DueLemmas
pub mod LostLemmas
