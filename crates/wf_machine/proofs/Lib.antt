pub mod TreeLemmas
pub mod RecordLemmas
pub mod OperatorLemmas
mod OperatorRows
