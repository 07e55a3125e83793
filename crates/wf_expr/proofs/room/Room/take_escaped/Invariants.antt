use Rattle.std.proofs.Common.{◌≡◌, ◌+◌, length, take}
use Rattle.json.specs.Print.{escape}
use Rattle.wf_expr.proofs.room.Room.take_escaped.Given as goal

abbrev pub invariant-loop-byte : goal.invariant-loop-byte
invariant-loop-byte l = l.self.bytes + length (escape (take l.byte-index l.bytes)) ≡ l.initial.self.bytes
