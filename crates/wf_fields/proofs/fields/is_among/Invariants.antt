use Rattle.std.proofs.Common.{◌≡◌, drop, map}
use Rattle.wf_fields.specs.Fields.{is_among}
use Rattle.wf_fields.proofs.fields.is_among.Given as goal

abbrev pub invariant-loop-other : goal.invariant-loop-other
invariant-loop-other l =
    is_among l.word (map (λ w. w.now) (drop l.other-index l.words)) ≡ is_among l.word (map (λ w. w.now) l.words)
