use Rattle.std.proofs.Common.{◌≡◌, drop}
use Rattle.wf_wire.specs.Reading.{pairs}
use Rattle.wf_wire.specs.Closing.{holds_close, connections}
use Rattle.std.specs.List.{list_any}
use Rattle.wf_wire.proofs.close.closing.Given as goal

abbrev pub invariant-loop-field : goal.invariant-loop-field
invariant-loop-field l = list_any holds_close (connections (pairs l.fields)) ≡ list_any holds_close (connections (pairs (drop l.field-index l.fields)))
