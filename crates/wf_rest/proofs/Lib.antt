pub mod CallLemmas
pub mod ServingLemmas
