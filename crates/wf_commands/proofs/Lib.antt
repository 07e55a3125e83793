pub mod TurnLemmas
pub mod CompleteLemmas
pub mod StandardLemmas
pub mod InputLemmas
pub mod CheckLemmas
