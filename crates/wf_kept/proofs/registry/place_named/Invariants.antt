use Rattle.std.proofs.Common.{◌≡◌, ◌++◌, take, drop}
use Rattle.wf_machine.specs.Registered.{without_flow_def}
use Rattle.wf_kept.proofs.registry.place_named.Given as goal

abbrev pub invariant-loop-i : goal.invariant-loop-i
invariant-loop-i l = without_flow_def l.name l.version l.defs ≡ take l.i l.defs ++ without_flow_def l.name l.version (drop l.i l.defs)
