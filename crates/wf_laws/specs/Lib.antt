-- Laws of histories.
pub mod Sound
pub mod HandOuts
