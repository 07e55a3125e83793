use Rattle.std.proofs.Common.{◌≡◌, ◌++◌, drop, filter, map}
use Rattle.wf_steps.specs.Calls.{id_of, runs_as}
use Rattle.wf_kept.specs.Flows.{all_kept}
use Rattle.wf_core.proofs.running.running_ids.Given as goal

-- the ids so far, and those of the flows that are left
abbrev pub invariant-loop-kept : goal.invariant-loop-kept
invariant-loop-kept l =
    l.ids ++ map (id_of l.mark) (filter (runs_as l.name l.version) (all_kept (drop l.kept-index l.flows)))
    ≡ map (id_of l.mark) (filter (runs_as l.name l.version) (all_kept l.flows))
