use Rattle.std.proofs.Common.{◌≡◌, drop}
use Rattle.wf_wire.specs.Fields.{values}
use Rattle.wf_wire.specs.Reading.{pairs}
use Rattle.wf_wire.proofs.fields.first_value.Given as goal

abbrev pub invariant-loop-field : goal.invariant-loop-field
invariant-loop-field l = values l.name (pairs l.fields) ≡ values l.name (pairs (drop l.field-index l.fields))
