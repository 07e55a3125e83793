pub mod FitLemmas
pub mod ScopeLemmas
pub mod TemplateLemmas
