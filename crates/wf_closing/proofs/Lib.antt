pub mod ForkLemmas
pub mod PlaceLemmas
pub mod OutputLemmas
pub mod EndLemmas
pub mod CountLemmas
