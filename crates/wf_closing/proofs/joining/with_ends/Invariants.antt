use Rattle.std.proofs.Common.{◌≡◌, [], drop, map}
use Rattle.wf_machine.specs.Sight.{seen}
use Rattle.wf_closing.specs.Closing.{branch_end, ends_put}
use Rattle.wf_closing.proofs.joining.with_ends.Given as goal

-- what is left leads to what the whole makes
abbrev pub invariant-loop-branch : goal.invariant-loop-branch
invariant-loop-branch l =
    ends_put (map seen l.flow.flow.attempts) l.iteration (map branch_end (drop l.branch-index l.branches)) l.made
    ≡ ends_put (map seen l.flow.flow.attempts) l.iteration (map branch_end l.branches) []
