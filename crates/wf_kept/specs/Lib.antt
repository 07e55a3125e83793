pub mod Room
pub mod Rising
pub mod Flows
pub mod Index
pub mod Hands
