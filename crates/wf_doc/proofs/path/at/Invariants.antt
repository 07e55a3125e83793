use Rattle.std.proofs.Common.{◌≡◌, drop}
use Rattle.wf_doc.specs.Path.{at}
use Rattle.wf_doc.proofs.path.at.Given as goal

abbrev pub invariant-loop-step : goal.invariant-loop-step
invariant-loop-step l = at (drop l.from l.path) l.doc ≡ at (drop l.step-index l.step-items) l.found
