-- Lemmas of the laws.
pub mod SoundLemmas
pub mod OperatorLemmas
pub mod LaterLemmas
pub mod HandLemmas
pub mod SettledLemmas
pub mod LoopLemmas
pub mod HistoryLemmas
pub mod ValidLemmas
