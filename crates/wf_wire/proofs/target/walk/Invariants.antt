use Rattle.std.proofs.Common.{◌≡◌, drop}
use Rattle.wf_wire.specs.Front as spec
use Rattle.wf_wire.proofs.target.walk.Given as goal

abbrev pub invariant-loop-byte : goal.invariant-loop-byte
invariant-loop-byte l = spec.walk spec.at_start l.bytes ≡ spec.walk l.part (drop l.byte-index l.bytes)
