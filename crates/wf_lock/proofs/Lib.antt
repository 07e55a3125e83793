pub mod PlaceLemmas
pub mod MarkLemmas
pub mod PrefixLemmas
pub mod RuleLemmas
pub mod RestLemmas
