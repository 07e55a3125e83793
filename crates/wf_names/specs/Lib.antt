pub mod FlowStatus
pub mod Ids
pub mod Refusal
pub mod TaskStatus
