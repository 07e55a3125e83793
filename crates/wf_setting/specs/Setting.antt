-- Where and when a flow is decided.
use Rattle.std.specs.Prelude.{ℕ}
use Rattle.wf_wire.specs.declared.limits.Limits.{Limits}
use Rattle.wf_machine.specs.State.{Flow}
use Rattle.wf_rules.specs.Sight.{Scene, Sight, sight}

-- the limits, the moment, and what stands beside the flow
pub record Setting : Type 0 where
  pub limits : Limits
  pub moment : ℕ
  pub scene : Scene

-- what the rules see of a flow there
abbrev pub sight_in : Setting → Flow → Sight
sight_in at f = sight at.moment at.scene.children f
