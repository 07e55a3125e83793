use Rattle.std.proofs.Common.{◌≡◌, ◌≤◌, drop, length, map, None}
use Rattle.wf_machine.specs.Sight.{seen}
use Rattle.wf_rules.specs.Rules.{last_place}
use Rattle.wf_closing.proofs.places.last_place.Given as goal

-- none stands from `left` on
abbrev pub invariant-attempts : goal.invariant-attempts
invariant-attempts l = record {
  within : l.left ≤ length l.attempts;
  none : last_place (map seen (drop l.left l.attempts)) l.node l.iteration ≡ None;
}

abbrev pub decreases-attempts : goal.decreases-attempts
decreases-attempts l = l.left
