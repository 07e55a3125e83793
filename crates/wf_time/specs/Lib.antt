pub mod Deadlines
pub mod Delay
pub mod Durations
