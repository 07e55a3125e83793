-- The rules of the decider.
pub mod Sight
pub mod Acts
pub mod Outputs
pub mod Scheduling
pub mod Rules
pub mod Plans
pub mod Loops
pub mod Making
