-- What requests ask.
pub mod Asking
