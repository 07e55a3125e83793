use Rattle.std.proofs.Common.{◌≡◌, ◌≤◌, IsTrue, drop}
use Rattle.std.specs.List.{list_all}
use Rattle.std.specs.Char.{is_ascii_digit}
use Rattle.std.specs.Str.Parse.{digits_value, digits_value_after}
use Rattle.wf_time.proofs.durations.number_within.Given as goal

abbrev pub invariant-loop-digit : goal.invariant-loop-digit
invariant-loop-digit l = (digits_value 10 l.digits ≡ digits_value_after 10 l.value (drop l.digit-index l.digits)) × (l.value ≤ 2147483647) × IsTrue (list_all is_ascii_digit (drop l.digit-index l.digits))
