pub mod RegistryLemmas
pub mod SearchLemmas
pub mod IndexLemmas
pub mod FlowLemmas
pub mod HandLemmas
pub mod RevisedLemmas
pub mod RemovalLemmas
