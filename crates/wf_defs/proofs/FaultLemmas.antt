-- The first broken of rules in two parts.
use Rattle.std.proofs.Common.{◌≡◌, ◌∙◌, ap, sym, refl, ℕ, List, [], ◌∷◌, ◌++◌, Option, None, Some}
use Rattle.std.specs.Option.{option_or}
use Rattle.wf_defs.specs.Faults.{or_first_of, first_broken}

or_more : (rule : ℕ) (place : Option (List ℕ)) (first later : Option (ℕ × List ℕ)) → or_first_of rule place (option_or first later) ≡ option_or (or_first_of rule place first) later
or_more rule None first later = refl
or_more rule (Some place) first later = refl

-- the first broken of some rules, or else of those behind them
pub first_broken_more : (rules more : List (ℕ × Option (List ℕ))) → first_broken (rules ++ more) ≡ option_or (first_broken rules) (first_broken more)
first_broken_more [] more = refl
first_broken_more (r ∷ rules) more =
    ap (or_first_of r.0 r.1) (first_broken_more rules more) ∙ or_more r.0 r.1 (first_broken rules) (first_broken more)

pub decided_early : (rules more : List (ℕ × Option (List ℕ))) (found : ℕ × List ℕ) → Some found ≡ first_broken rules → Some found ≡ first_broken (rules ++ more)
decided_early rules more found e = ap (λ o. option_or o (first_broken more)) e ∙ sym (first_broken_more rules more)

pub decided_late : (rules more : List (ℕ × Option (List ℕ))) (found : Option (ℕ × List ℕ)) → None ≡ first_broken rules → found ≡ first_broken more → found ≡ first_broken (rules ++ more)
decided_late rules more found e f = f ∙ ap (λ o. option_or o (first_broken more)) e ∙ sym (first_broken_more rules more)
