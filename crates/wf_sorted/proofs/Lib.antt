pub mod AppendLemmas
pub mod BlockLemmas
pub mod LeastLemmas
pub mod OrderLemmas
pub mod PutLemmas
