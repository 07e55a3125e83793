-- A plan of one flow, and when it applies.
use Rattle.std.specs.Prelude.{◌≡◌, ℕ, List, []}
use Rattle.wf_wire.specs.declared.limits.Limits.{Limits}
use Rattle.wf_rules.specs.declared.acting.Act.{Act}
use Rattle.wf_rules.specs.Acts.{Turn}
use Rattle.wf_rules.specs.Plans.{IsLater, Numbers, PlanHolds, plan, turn_at}
use Rattle.wf_rules.specs.Sight.{Scene}

-- what a decision makes of a flow, at that moment and beside so many kept flows
pub record Planned : Type 0 where
  pub acts : List Act
  pub moment : ℕ
  pub kept : ℕ

abbrev pub numbers_at : Turn → Numbers
numbers_at t = record { flow = t.next_flow; task = t.next_task }

-- The plan was made of the turn's flow, within these limits, beside that scene and with the next numbers `old`, and it holds at
-- the moment e, when so many flows are kept and the turn has started none.
pub record Applies (p : Planned) (e : ℕ) (t : Turn) : Type 0 where
  pub limits : Limits
  pub scene : Scene
  pub old : Numbers
  pub kept : ℕ
  pub fresh : t.children ≡ []
  pub acts : p.acts ≡ plan limits scene p.kept p.moment (turn_at t.flow old)
  pub later : IsLater scene old (numbers_at t)
  pub holds : PlanHolds p.acts t.flow p.moment e p.kept kept (numbers_at t)
