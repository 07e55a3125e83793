use Rattle.std.proofs.Common.{◌≡◌, map}
use Rattle.wf_rules.specs.Rules.{first_some}
use Rattle.wf_rules.specs.Sight.{child_end}
use Rattle.wf_retry.proofs.FirstLemmas.{left}
use Rattle.wf_retry.proofs.ended.first_ended.Given as goal

-- none before this place has an ended child
abbrev pub invariant-loop-place : goal.invariant-loop-place
invariant-loop-place g l = first_some (map (child_end (g.C.Children.all l.children)) l.attempts) ≡ left (child_end (g.C.Children.all l.children)) l.attempts l.place
