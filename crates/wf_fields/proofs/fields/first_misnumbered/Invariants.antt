use Rattle.std.proofs.Common.{◌≡◌, drop, map}
use Rattle.wf_fields.specs.Fields.{first_misnumbered}
use Rattle.wf_fields.proofs.fields.first_misnumbered.Given as goal

abbrev pub invariant-loop-key : goal.invariant-loop-key
invariant-loop-key l =
    first_misnumbered l.doc (map (λ f. (f.0.now, f.1, f.2)) (drop l.key-index l.fields)) ≡ first_misnumbered l.doc (map (λ f. (f.0.now, f.1, f.2)) l.fields)
