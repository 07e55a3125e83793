use Rattle.std.proofs.Common.{◌≡◌, drop, map}
use Rattle.wf_defs.specs.Condition.{after_words}
use Rattle.wf_defs.proofs.condition.after_words.Given as goal

abbrev pub invariant-loop-word : goal.invariant-loop-word
invariant-loop-word l =
    after_words (map (λ w. w.now) (drop l.word-index l.words)) l.rest ≡ after_words (map (λ w. w.now) l.words) l.text
