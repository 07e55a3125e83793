use Rattle.std.proofs.Common.{◌≡◌, ◌≤◌, IsTrue, drop}
use Rattle.std.specs.List.{list_all}
use Rattle.std.specs.Char.{is_ascii_digit}
use Rattle.std.specs.Str.Parse.{digits_value, digits_value_after}
use Rattle.wf_wire.proofs.framing.number_within.Given as goal

abbrev pub invariant-loop-byte : goal.invariant-loop-byte
invariant-loop-byte l = (digits_value 10 l.text ≡ digits_value_after 10 l.total (drop l.byte-index l.text)) × (l.total ≤ l.limit) × IsTrue (list_all is_ascii_digit (drop l.byte-index l.text))
