use Rattle.std.proofs.Common.{◌≡◌, drop}
use Rattle.std.specs.Option.{option_copied}
use Rattle.wf_machine.specs.Registered.{greater_version, newest_flow_def}
use Rattle.wf_schedule.proofs.registered.newest.Given as goal

abbrev pub invariant-loop-def : goal.invariant-loop-def
invariant-loop-def l = greater_version (option_copied l.best) (newest_flow_def l.name (drop l.def-index l.defs)) ≡ newest_flow_def l.name l.defs
