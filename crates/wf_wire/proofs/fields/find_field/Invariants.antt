use Rattle.std.proofs.Common.{◌≡◌, ◌++◌, drop}
use Rattle.wf_wire.specs.Fields.{values}
use Rattle.wf_wire.specs.Reading.{pairs, one_of}
use Rattle.wf_wire.proofs.fields.find_field.Given as goal

abbrev pub invariant-loop-field : goal.invariant-loop-field
invariant-loop-field l = values l.name (pairs l.fields) ≡ one_of l.found ++ values l.name (pairs (drop l.field-index l.fields))
