use Rattle.std.proofs.Common.{◌≡◌, drop, map}
use Rattle.std.specs.List.{list_any}
use Rattle.wf_machine.specs.Marks.{is_of}
use Rattle.wf_machine.specs.Sight.{seen}
use Rattle.wf_retry.proofs.losing.stands_in.Given as goal

-- none before this one is it
abbrev pub invariant-loop-attempt : goal.invariant-loop-attempt
invariant-loop-attempt l =
    list_any (is_of l.node l.iteration) (map seen l.attempts) ≡ list_any (is_of l.node l.iteration) (map seen (drop l.attempt-index l.attempts))
