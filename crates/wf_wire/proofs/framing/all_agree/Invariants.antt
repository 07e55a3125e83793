use Rattle.std.proofs.Common.{◌≡◌, drop}
use Rattle.wf_wire.specs.Fields.{lengths, all_agree}
use Rattle.wf_wire.specs.Reading.{pairs}
use Rattle.wf_wire.proofs.framing.all_agree.Given as goal

abbrev pub invariant-loop-field : goal.invariant-loop-field
invariant-loop-field l = all_agree l.first (lengths (pairs l.fields)) ≡ all_agree l.first (lengths (pairs (drop l.field-index l.fields)))
