use Rattle.std.proofs.Common.{◌≡◌, ◌+◌, ◌++◌, length, string_bytes}
use Rattle.std.specs.Str.{IsUtf8}
use Rattle.json.specs.Print.{escape}
use Rattle.wf_expr.specs.Filling.{joined}
use Rattle.wf_expr.specs.Parts.{parts}
use Rattle.wf_expr.proofs.filling.join.Given as goal

abbrev pub invariant-parts : goal.invariant-parts
invariant-parts g l = record {
  so_far : joined (g.S.Scope.names l.scope) (parts l.text) ≡ string_bytes l.made ++ joined (g.S.Scope.names l.scope) (parts l.rest);
  left : l.room.bytes + (length (escape (string_bytes l.made)) + 2) ≡ l.fn.room.bytes;
  utf8 : IsUtf8 l.rest;
}

abbrev pub decreases-parts : goal.decreases-parts
decreases-parts g l = length l.rest
