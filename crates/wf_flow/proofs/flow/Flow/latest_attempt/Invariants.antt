use Rattle.std.proofs.Common.{◌≡◌, ◌≤◌, drop, length, map}
use Rattle.std.specs.Option.{option_copied, option_map}
use Rattle.wf_machine.specs.Naming.{latest_of}
use Rattle.wf_machine.specs.Sight.{seen}
use Rattle.wf_flow.proofs.flow.Flow.latest_attempt.Given as goal

-- those from `left` on were looked at
abbrev pub invariant-attempts : goal.invariant-attempts
invariant-attempts l = record {
  within : l.left ≤ length l.attempts;
  latest : option_map seen (option_copied l.latest) ≡ latest_of (map seen (drop l.left l.attempts)) l.node;
}

abbrev pub decreases-attempts : goal.decreases-attempts
decreases-attempts l = l.left
