pub mod SightLemmas
pub mod LoopLemmas
pub mod OpenLemmas
pub mod FallLemmas
pub mod PlanLemmas
pub mod EndLemmas
pub mod WantLemmas
pub mod ViewLemmas
pub mod CountLemmas
pub mod MakeLemmas
mod WalkRows
mod RuleRows
