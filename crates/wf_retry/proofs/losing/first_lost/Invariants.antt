use Rattle.std.proofs.Common.{◌≡◌, map}
use Rattle.wf_machine.specs.Sight.{seen}
use Rattle.wf_rules.specs.Rules.{first_lost}
use Rattle.wf_retry.proofs.FirstLemmas.{lost_left}
use Rattle.wf_retry.proofs.losing.first_lost.Given as goal

-- none before this place is lost
abbrev pub invariant-loop-place : goal.invariant-loop-place
invariant-loop-place l = first_lost (map seen l.attempts) ≡ lost_left l.attempts l.place
