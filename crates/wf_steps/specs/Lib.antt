-- The machine's steps.
pub mod Calls
pub mod History
