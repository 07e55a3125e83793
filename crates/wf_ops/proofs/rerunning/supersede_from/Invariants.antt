use Rattle.std.proofs.Common.{◌≡◌}
use Rattle.wf_machine.specs.Operators.{is_from}
use Rattle.wf_ops.proofs.PlaceLemmas.{superseded_before}
use Rattle.wf_ops.proofs.rerunning.supersede_from.Given as goal

-- those before the place are judged, and the others are as they were
abbrev pub invariant-loop-place : goal.invariant-loop-place
invariant-loop-place l = record {
  flow : l.flow.flow ≡ record l.initial.flow.flow { attempts = superseded_before (is_from l.node) l.place l.initial.flow.flow.attempts };
  room : l.flow.spare ≡ l.initial.flow.spare;
}
