pub mod FillLemmas
pub mod PartLemmas
