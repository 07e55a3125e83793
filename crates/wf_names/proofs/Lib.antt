pub mod IdLemmas
pub mod SearchLemmas
pub mod StatusLemmas
