-- Valid definitions, and what they say.
pub mod Names
pub mod Faults
pub mod TaskRules
pub mod TaskReading
pub mod Condition
pub mod Nodes
pub mod NodeRules
pub mod FlowRules
pub mod Lists
pub mod NodeReading
pub mod FlowReading
pub mod Several
