-- What paths name in a flow, step by step.
use Rattle.std.proofs.Common.{◌≡◌, ◌∙◌, ap, refl, ℕ, ◌≤◌, true, false, if◌then◌else◌, List, [], ◌∷◌, drop, length, None, Some, arith}
use Rattle.std.specs.Prelude.{codes, option_and_then}
use Rattle.wf_doc.specs.declared.path.Step.{Step}
use Rattle.wf_doc.specs.declared.path.Step.TheVariants.{Name, Index}
use Rattle.wf_doc.specs.Path.{name_at}
use Rattle.wf_machine.specs.Text.{same_text}
use Rattle.wf_machine.specs.Sight.{Seen, Told}
use Rattle.wf_machine.specs.Naming.{named_attempt, named_id, named_in_attempt, named_in_flow, names, only_id}

-- ---- names in a path

pub first_name : (path : List Step) (key : List ℕ) → name_at path 0 ≡ Some key → path ≡ Name key ∷ drop 1 path
first_name [] key e = let no : ⊥ = cc in absurd no
first_name (Name k ∷ rest) key e = let same : k ≡ key = cc in ap (λ t. Name t ∷ rest) same
first_name (Index n ∷ rest) key e = let no : ⊥ = cc in absurd no

pub second_name : (path : List Step) (key : List ℕ) → name_at path 1 ≡ Some key → drop 1 path ≡ Name key ∷ drop 2 path
second_name [] key e = let no : ⊥ = cc in absurd no
second_name (step ∷ rest) key e = first_name rest key e

pub second_within : (path : List Step) (key : List ℕ) → name_at path 1 ≡ Some key → 2 ≤ length path
second_within [] key e = let no : ⊥ = cc in absurd no
second_within (step ∷ []) key e = let no : ⊥ = cc in absurd no
second_within (step ∷ next ∷ rest) key e = omega arith

-- ---- steps that are no names

pub no_first_name : (mark : ℕ) (s : Told) (path : List Step) → name_at path 0 ≡ None → names mark s path ≡ None
unfolding names
no_first_name mark s [] e = refl
no_first_name mark s (Name k ∷ rest) e = let no : ⊥ = cc in absurd no
no_first_name mark s (Index n ∷ rest) e = refl

in_flow : (mark : ℕ) (s : Told) (steps : List Step) → name_at steps 0 ≡ None → named_in_flow mark s steps ≡ None
in_flow mark s [] e = refl
in_flow mark s (Name k ∷ rest) e = let no : ⊥ = cc in absurd no
in_flow mark s (Index n ∷ rest) e = refl

pub none_in_flow : (mark : ℕ) (s : Told) (path : List Step) → name_at path 1 ≡ None → named_in_flow mark s (drop 1 path) ≡ None
none_in_flow mark s [] e = refl
none_in_flow mark s (step ∷ rest) e = in_flow mark s rest e

in_attempt : (a : Seen) (steps : List Step) → name_at steps 0 ≡ None → named_in_attempt steps a ≡ None
in_attempt a [] e = refl
in_attempt a (Name k ∷ rest) e = let no : ⊥ = cc in absurd no
in_attempt a (Index n ∷ rest) e = refl

pub none_in_attempt : (a : Seen) (path : List Step) → name_at path 1 ≡ None → named_in_attempt (drop 1 path) a ≡ None
none_in_attempt a [] e = refl
none_in_attempt a (step ∷ rest) e = in_attempt a rest e

-- ---- ids

pub id_alone : (mark : ℕ) (s : Told) (key : List ℕ) (path : List Step) → length path ≡ 2 → only_id mark s key (drop 2 path) ≡ named_id mark s key
id_alone mark s key [] e = absurd (omega (arith, e))
id_alone mark s key (a ∷ []) e = absurd (omega (arith, e))
id_alone mark s key (a ∷ b ∷ []) e = refl
id_alone mark s key (a ∷ b ∷ c ∷ rest) e = absurd (omega (arith, e))

pub no_id_behind : (mark : ℕ) (s : Told) (key : List ℕ) (path : List Step) → 2 ≤ length path → (length path ≡ 2 → ⊥) → only_id mark s key (drop 2 path) ≡ None
no_id_behind mark s key [] within e = absurd (omega (arith, within))
no_id_behind mark s key (a ∷ []) within e = absurd (omega (arith, within))
no_id_behind mark s key (a ∷ b ∷ []) within e = absurd (e refl)
no_id_behind mark s key (a ∷ b ∷ c ∷ rest) within e = refl

-- ---- the first name

pub names_workflow : (mark : ℕ) (s : Told) (first : List ℕ) (steps : List Step) → same_text first (codes "workflow") ≡ true → names mark s (Name first ∷ steps) ≡ named_in_flow mark s steps
unfolding names
names_workflow mark s first steps e = ap (λ b. if b then named_in_flow mark s steps else option_and_then (named_in_attempt steps) (named_attempt s first)) e

pub names_attempt : (mark : ℕ) (s : Told) (first : List ℕ) (steps : List Step) (a : Seen) → same_text first (codes "workflow") ≡ false → named_attempt s first ≡ Some a → names mark s (Name first ∷ steps) ≡ named_in_attempt steps a
unfolding names
names_attempt mark s first steps a e found =
    ap (λ b. if b then named_in_flow mark s steps else option_and_then (named_in_attempt steps) (named_attempt s first)) e
    ∙ ap (option_and_then (named_in_attempt steps)) found

pub names_nothing : (mark : ℕ) (s : Told) (first : List ℕ) (steps : List Step) → same_text first (codes "workflow") ≡ false → named_attempt s first ≡ None → names mark s (Name first ∷ steps) ≡ None
unfolding names
names_nothing mark s first steps e found =
    ap (λ b. if b then named_in_flow mark s steps else option_and_then (named_in_attempt steps) (named_attempt s first)) e
    ∙ ap (option_and_then (named_in_attempt steps)) found
