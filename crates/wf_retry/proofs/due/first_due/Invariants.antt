use Rattle.std.proofs.Common.{◌≡◌, map}
use Rattle.wf_rules.specs.Rules.{first_due}
use Rattle.wf_rules.specs.Sight.{due}
use Rattle.wf_retry.specs.Reading.{cause_due}
use Rattle.wf_retry.proofs.FirstLemmas.{left}
use Rattle.wf_retry.proofs.due.first_due.Given as goal

-- none before this place is due
abbrev pub invariant-loop-place : goal.invariant-loop-place
invariant-loop-place l = first_due (map (due l.moment) l.attempts) ≡ left (cause_due l.moment) l.attempts l.place
