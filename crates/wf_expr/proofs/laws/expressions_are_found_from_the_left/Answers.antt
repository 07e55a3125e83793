use Rattle.std.proofs.Common.{◌∷◌, ◌++◌, refl}
use Rattle.wf_expr.proofs.PartLemmas.{around, lacks_opening, split_nowhere}
use Rattle.wf_expr.proofs.laws.expressions_are_found_from_the_left.Goals as goal

pub returns-clause-first : goal.returns-clause-first
returns-clause-first c = λ before inside after lacks none.
    around (before ++ 36 ∷ 123 ∷ (inside ++ 125 ∷ after)) before (inside ++ 125 ∷ after) inside after refl refl (λ i l. lacks_opening (before ++ 36 ∷ 123 ∷ (inside ++ 125 ∷ after)) i (lacks i l)) none

pub returns-clause-none : goal.returns-clause-none
returns-clause-none c = split_nowhere
