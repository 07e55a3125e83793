use Rattle.std.proofs.Common.{◌≡◌, length}
use Rattle.wf_wire.specs.Reading.{significant}
use Rattle.wf_wire.proofs.framing.significant.Given as goal

abbrev pub invariant-loop-rest : goal.invariant-loop-rest
invariant-loop-rest l = significant l.text ≡ significant l.rest

abbrev pub decreases-loop-rest : goal.decreases-loop-rest
decreases-loop-rest l = length l.rest
