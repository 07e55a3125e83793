-- A node that is found in a list, one turn of a loop after another.
use Rattle.std.proofs.Common.{◌≡◌, ℕ, ◌+◌, ◌<◌, ◌||◌, Bool, true, false, cond, List, [], ◌∷◌, ◌++◌, refl, sym, subst, length, drop, get_or}
use Rattle.std.specs.List.{find, list_any}
use Rattle.std.proofs.lemmas.List.{drop_more}
use Rattle.std.proofs.lemmas.List.Folds.{find-append}
use Rattle.std.specs.declared.option.Option.TheVariants.{None, Some}
use Rattle.wf_machine.specs.declared.definition.Node.{Node}
use Rattle.wf_machine.specs.declared.definition.Branch.{Branch, out-Branch}
use Rattle.wf_machine.specs.declared.definition.Case.{Case, out-Case}
use Rattle.wf_machine.specs.Marks.{all_nodes, inside_kind, all_of_branches, all_of_cases}

found_first : {X : Type 0} (p : X → Bool) (xs ys : List X) (x : X) → find p xs ≡ Some x → find p (xs ++ ys) ≡ Some x
found_first p xs ys x e = rw (find-append p xs ys, e) refl

found_later : {X : Type 0} (p : X → Bool) (xs ys : List X) → find p xs ≡ None → find p (xs ++ ys) ≡ find p ys
found_later p xs ys e = rw (find-append p xs ys, e) refl

pub inside_node : (p : Node → Bool) (xs : List Node) (k : ℕ) (x found : Node) → k < length xs → x ≡ get_or xs k x → p x ≡ false → find p (inside_kind x.kind) ≡ Some found → find p (all_nodes (drop k xs)) ≡ Some found
inside_node p xs k x found lt is other e = rw (drop_more xs k x lt, ← is, other) (found_first p (inside_kind x.kind) (all_nodes (drop (k + 1) xs)) found e)

pub after_node : (p : Node → Bool) (xs : List Node) (k : ℕ) (x : Node) → k < length xs → x ≡ get_or xs k x → p x ≡ false → find p (inside_kind x.kind) ≡ None → find p (all_nodes (drop (k + 1) xs)) ≡ find p (all_nodes (drop k xs))
after_node p xs k x lt is other e = sym (rw (drop_more xs k x lt, ← is, other) (found_later p (inside_kind x.kind) (all_nodes (drop (k + 1) xs)) e))

pub inside_branch : (p : Node → Bool) (xs : List Branch) (k : ℕ) (x : Branch) (found : Node) → k < length xs → x ≡ get_or xs k x → find p (all_nodes (out-Branch x).nodes) ≡ Some found → find p (all_of_branches (drop k xs)) ≡ Some found
inside_branch p xs k x found lt is e = rw (drop_more xs k x lt, ← is) (found_first p (all_nodes (out-Branch x).nodes) (all_of_branches (drop (k + 1) xs)) found e)

pub after_branch : (p : Node → Bool) (xs : List Branch) (k : ℕ) (x : Branch) → k < length xs → x ≡ get_or xs k x → find p (all_nodes (out-Branch x).nodes) ≡ None → find p (all_of_branches (drop (k + 1) xs)) ≡ find p (all_of_branches (drop k xs))
after_branch p xs k x lt is e = sym (rw (drop_more xs k x lt, ← is) (found_later p (all_nodes (out-Branch x).nodes) (all_of_branches (drop (k + 1) xs)) e))

pub inside_case : (p : Node → Bool) (xs : List Case) (k : ℕ) (x : Case) (found : Node) → k < length xs → x ≡ get_or xs k x → find p (all_nodes (out-Case x).nodes) ≡ Some found → find p (all_of_cases (drop k xs)) ≡ Some found
inside_case p xs k x found lt is e = rw (drop_more xs k x lt, ← is) (found_first p (all_nodes (out-Case x).nodes) (all_of_cases (drop (k + 1) xs)) found e)

pub after_case : (p : Node → Bool) (xs : List Case) (k : ℕ) (x : Case) → k < length xs → x ≡ get_or xs k x → find p (all_nodes (out-Case x).nodes) ≡ None → find p (all_of_cases (drop (k + 1) xs)) ≡ find p (all_of_cases (drop k xs))
after_case p xs k x lt is e = sym (rw (drop_more xs k x lt, ← is) (found_later p (all_nodes (out-Case x).nodes) (all_of_cases (drop (k + 1) xs)) e))

pub at_node : (p : Node → Bool) (xs : List Node) (k : ℕ) (x : Node) → k < length xs → x ≡ get_or xs k x → p x ≡ true → find p (all_nodes (drop k xs)) ≡ Some x
at_node p xs k x lt is same = rw (drop_more xs k x lt, ← is, same) refl

pub in_cases : (p : Node → Bool) (cases nodes : List Node) (found : Node) → find p cases ≡ Some found → find p (cases ++ nodes) ≡ Some found
in_cases p cases nodes found e = found_first p cases nodes found e

pub in_otherwise : (p : Node → Bool) (cases nodes : List Node) → find p cases ≡ None → find p (cases ++ nodes) ≡ find p nodes
in_otherwise p cases nodes e = found_later p cases nodes e

any_first : (p : Node → Bool) (xs : List Node) (x y : Node) (b : Bool) → cond b (Some y) (find p xs) ≡ Some x → (find p xs ≡ Some x → true ≡ list_any p xs) → true ≡ (b || list_any p xs)
any_first p xs x y true e later = refl
any_first p xs x y false e later = later e

-- any passes where one is found
pub any_found : (p : Node → Bool) (xs : List Node) (x : Node) → find p xs ≡ Some x → true ≡ list_any p xs
any_found p [] x e = let no : ⊥ = cc in absurd no
any_found p (y ∷ ys) x e = any_first p ys x y (p y) e (λ later. any_found p ys x later)

none_first : (p : Node → Bool) (xs : List Node) (y : Node) (b : Bool) → cond b (Some y) (find p xs) ≡ None → (find p xs ≡ None → false ≡ list_any p xs) → false ≡ (b || list_any p xs)
none_first p xs y true e later = let no : ⊥ = cc in absurd no
none_first p xs y false e later = later e

pub none_found : (p : Node → Bool) (xs : List Node) → find p xs ≡ None → false ≡ list_any p xs
none_found p [] e = refl
none_found p (y ∷ ys) e = none_first p ys y (p y) e (λ later. none_found p ys later)

passes_first : (p : Node → Bool) (xs : List Node) (x y : Node) (b : Bool) → p y ≡ b → cond b (Some y) (find p xs) ≡ Some x → (find p xs ≡ Some x → p x ≡ true) → p x ≡ true
passes_first p xs x y true is e later = let it : y ≡ x = cc in subst (λ n. p n ≡ true) it is
passes_first p xs x y false is e later = later e

-- the node that is found passes
pub found_passes : (p : Node → Bool) (xs : List Node) (x : Node) → find p xs ≡ Some x → p x ≡ true
found_passes p [] x e = let no : ⊥ = cc in absurd no
found_passes p (y ∷ ys) x e = passes_first p ys x y (p y) refl e (λ later. found_passes p ys x later)
