-- Lemmas of the laws.
pub mod FitLemmas
