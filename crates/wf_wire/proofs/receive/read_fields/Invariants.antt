use Rattle.std.proofs.Common.{◌≡◌, map, take}
use Rattle.httparse.specs.Spans.{header_bytes}
use Rattle.wf_wire.specs.Reading.{pairs}
use Rattle.wf_wire.proofs.receive.read_fields.Given as goal

abbrev pub invariant-loop-span : goal.invariant-loop-span
invariant-loop-span l = pairs l.fields.items ≡ map (header_bytes l.buf) (take l.span-index l.spans)
