-- Attempts that start a flow, with room for it and without.
use Rattle.std.proofs.Common.{◌≡◌, ◌∙◌, sym, ap, refl, Bool, true, false, if◌then◌else◌}
use Rattle.wf_rules.specs.declared.acting.Child.{Child}
use Rattle.wf_rules.specs.declared.acting.Child.TheVariants.{Nothing, Flow as NewFlow, TooLarge, Refused}
use Rattle.wf_rules.specs.declared.acting.NewAttempt.{NewAttempt}
use Rattle.wf_rules.specs.Rules.{Room, fitted_child, store_full}
use Rattle.wf_decide.specs.Allowing.{is_refused}

by_test : (r : Room) (n : NewAttempt) (child : Child) → fitted_child r n child ≡ (if is_refused r child then store_full n else n)
by_test r n Nothing = refl
by_test r n (NewFlow def input) = refl
by_test r n TooLarge = refl
by_test r n Refused = refl

pub child_refused : (r : Room) (n : NewAttempt) (child : Child) → is_refused r child ≡ true → store_full n ≡ fitted_child r n child
child_refused r n child e = sym (by_test r n child ∙ ap (λ (b : Bool). if b then store_full n else n) e)

pub child_left : (r : Room) (n : NewAttempt) (child : Child) → is_refused r child ≡ false → n ≡ fitted_child r n child
child_left r n child e = sym (by_test r n child ∙ ap (λ (b : Bool). if b then store_full n else n) e)
