use Rattle.std.proofs.Common.{◌≡◌, drop, not}
use Rattle.std.specs.List.{find}
use Rattle.wf_kept.specs.Flows.{all_kept}
use Rattle.wf_steps.specs.Calls.{is_settled, needs}
use Rattle.wf_core.proofs.steps.Core.needing.Given as goal

-- those that were looked at are settled
abbrev pub invariant-loop-kept : goal.invariant-loop-kept
invariant-loop-kept l = find (λ k. not (is_settled l.self.limits l.moment l.self.state k.flow)) (all_kept (drop l.kept-index l.kept-items)) ≡ needs l.self.limits l.moment l.self.state
