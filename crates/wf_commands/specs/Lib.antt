pub mod Status
pub mod Words
pub mod Written
pub mod Standard
pub mod Runs
pub mod Turns
pub mod Inputs
pub mod Checking
