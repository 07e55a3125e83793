-- The definitions of the machine.
pub mod Text
pub mod Nodes
pub mod State
pub mod Sight
pub mod Marks
pub mod Naming
pub mod Choices
pub mod Registered
pub mod Flows
pub mod Statuses
pub mod Records
pub mod Tasks
pub mod Queues
pub mod Documents
pub mod Operators
pub mod Replies
