use Rattle.std.proofs.Common.{◌≡◌, drop, map}
use Rattle.wf_fields.specs.Fields.{first_misformed}
use Rattle.wf_fields.proofs.fields.first_misformed.Given as goal

abbrev pub invariant-loop-key : goal.invariant-loop-key
invariant-loop-key l =
    first_misformed l.doc (map (λ f. (f.0.now, f.1)) (drop l.key-index l.fields)) ≡ first_misformed l.doc (map (λ f. (f.0.now, f.1)) l.fields)
