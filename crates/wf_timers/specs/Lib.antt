pub mod Agenda
pub mod Kept
