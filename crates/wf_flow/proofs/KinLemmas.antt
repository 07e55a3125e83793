-- Lists of attempts that stand for the same attempts, before and after a change.
use Rattle.std.proofs.Common.{◌≡◌, ℕ, ◌+◌, ◌<◌, Bool, true, false, cond, if◌then◌else◌, List, [], ◌∷◌, ◌++◌, map, Option, None, Some, refl, sym, subst, ◌∙◌, arith}
use Rattle.std.specs.List.{list_any}
use Rattle.std.proofs.lemmas.Bool.Decides.{nat_tests}
use Rattle.wf_names.specs.declared.ids.TaskNo.{TaskNo}
use Rattle.wf_machine.specs.State.{Attempt, RisingFrom, attempt_numbered, is_numbered, with_attempt}
use Rattle.wf_machine.specs.Records.{Each, Held, AreRetries, IsRetry, is_same_place}
use Rattle.wf_flow.proofs.PlaceLemmas.{with_above}

-- the same attempt at the same place
pub record IsKin (a b : Attempt) : Type 0 where
  pub number : a.number ≡ b.number
  pub node : a.node ≡ b.node
  pub iteration : a.iteration ≡ b.iteration
  pub retried : a.retried ≡ b.retried

-- with the same child, timing and turn
pub record IsSameWork (a b : Attempt) : Type 0 where
  pub child : a.child ≡ b.child
  pub timing : a.timing ≡ b.timing
  pub turn : a.turn ≡ b.turn

pub kin_itself : (a : Attempt) → IsKin a a
kin_itself a = record { number = refl; node = refl; iteration = refl; retried = refl }

abbrev pub AreKin : List Attempt → List Attempt → Type 0
AreKin [] [] = Unit {0}
AreKin [] (y ∷ ys) = ⊥
AreKin (x ∷ xs) [] = ⊥
AreKin (x ∷ xs) (y ∷ ys) = IsKin x y × AreKin xs ys

pub kin_same : (xs : List Attempt) → AreKin xs xs
kin_same [] = tt
kin_same (x ∷ xs) = (kin_itself x, kin_same xs)

pub kin_map : (f : Attempt → Attempt) → ((a : Attempt) → IsKin a (f a)) → (xs : List Attempt) → AreKin xs (map f xs)
kin_map f each [] = tt
kin_map f each (x ∷ xs) = (each x, kin_map f each xs)

-- ---- one attempt in place of that of its number

kin_head : (t : Bool) (b a x : Attempt) (rest : Option Attempt) → cond t (Some x) rest ≡ Some a → IsKin a b → IsKin x (if t then b else x)
kin_head true b a x rest found kin = let same : a ≡ x = cc in subst (λ w. IsKin w b) same kin
kin_head false b a x rest found kin = kin_itself x

kin_tail : (t : Bool) (b a x : Attempt) (xs : List Attempt) → is_numbered b.number x ≡ t → cond t (Some x) (attempt_numbered b.number xs) ≡ Some a → RisingFrom (x.number.0 + 1) xs → (attempt_numbered b.number xs ≡ Some a → AreKin xs (with_attempt b xs)) → AreKin xs (with_attempt b xs)
kin_tail true b a x xs is found rising step =
    let below : b.number.0 < x.number.0 + 1 = grind (arith, nat_tests) in
    subst (AreKin xs) (sym (with_above (x.number.0 + 1) b xs rising below)) (kin_same xs)
kin_tail false b a x xs is found rising step = step found

pub kin_with : (low : ℕ) (b a : Attempt) (xs : List Attempt) → RisingFrom low xs → attempt_numbered b.number xs ≡ Some a → IsKin a b → AreKin xs (with_attempt b xs)
kin_with low b a [] rising found kin = tt
kin_with low b a (x ∷ xs) rising found kin = (
  kin_head (is_numbered b.number x) b a x (attempt_numbered b.number xs) found kin,
  kin_tail (is_numbered b.number x) b a x xs refl found rising.1 (λ later. kin_with (x.number.0 + 1) b a xs rising.1 later kin),
)

-- ---- retried numbers

any_same : (n : TaskNo) (a b : Attempt) (xs ys : List Attempt) → IsKin a b → AreKin xs ys → list_any (is_same_place n a) xs ≡ list_any (is_same_place n b) ys
any_same n a b [] [] kin are = refl
any_same n a b [] (y ∷ ys) kin are = absurd are
any_same n a b (x ∷ xs) [] kin are = absurd are
any_same n a b (x ∷ xs) (y ∷ ys) kin are =
    rw (any_same n a b xs ys kin are.1, kin.node, kin.iteration, are.0.number, are.0.node, are.0.iteration) refl

held_step : (P Q : TaskNo → Type 0) (o : Option TaskNo) → ((n : TaskNo) → P n → Q n) → Held P o → Held Q o
held_step P Q None step held = tt
held_step P Q (Some n) step held = step n held

retry_kin : (a b : Attempt) (xs ys : List Attempt) → IsKin a b → AreKin xs ys → IsRetry xs a → IsRetry ys b
retry_kin a b xs ys kin are retry =
    subst
    (λ o. Held (λ n. list_any (is_same_place n b) ys ≡ true) o)
    kin.retried
    (held_step (λ n. list_any (is_same_place n a) xs ≡ true) (λ n. list_any (is_same_place n b) ys ≡ true) a.retried (λ n there. sym (any_same n a b xs ys kin are) ∙ there) retry)

kin_append : (xs ys : List Attempt) (a b : Attempt) → AreKin xs ys → IsKin a b → AreKin (xs ++ a ∷ []) (ys ++ b ∷ [])
kin_append [] [] a b are kin = (kin, tt)
kin_append [] (y ∷ ys) a b are kin = absurd are
kin_append (x ∷ xs) [] a b are kin = absurd are
kin_append (x ∷ xs) (y ∷ ys) a b are kin = (are.0, kin_append xs ys a b are.1 kin)

pub retries_kin : (bs cs xs ys : List Attempt) → AreKin bs cs → AreKin xs ys → AreRetries bs xs → AreRetries cs ys
retries_kin bs cs [] [] before are retries = tt
retries_kin bs cs [] (y ∷ ys) before are retries = absurd are
retries_kin bs cs (x ∷ xs) [] before are retries = absurd are
retries_kin bs cs (x ∷ xs) (y ∷ ys) before are retries = (
  retry_kin x y bs cs are.0 before retries.0,
  retries_kin (bs ++ x ∷ []) (cs ++ y ∷ []) xs ys (kin_append bs cs x y before are.0) are.1 retries.1,
)

-- ---- a fact of each attempt

chosen : (P : Attempt → Type 0) (t : Bool) (a x : Attempt) → P a → P x → P (if t then a else x)
chosen P true a x p q = p
chosen P false a x p q = q

pub each_with : (P : Attempt → Type 0) (a : Attempt) (xs : List Attempt) → Each P xs → P a → Each P (with_attempt a xs)
each_with P a [] each p = tt
each_with P a (x ∷ xs) each p = (chosen P (is_numbered a.number x) a x p each.0, each_with P a xs each.1 p)

pub each_map : (P Q : Attempt → Type 0) (f : Attempt → Attempt) → ((a : Attempt) → P a → Q (f a)) → (xs : List Attempt) → Each P xs → Each Q (map f xs)
each_map P Q f step [] each = tt
each_map P Q f step (x ∷ xs) each = (step x each.0, each_map P Q f step xs each.1)

pub each_append : (P : Attempt → Type 0) (xs : List Attempt) (a : Attempt) → Each P xs → P a → Each P (xs ++ a ∷ [])
each_append P [] a each p = (p, tt)
each_append P (x ∷ xs) a each p = (each.0, each_append P xs a each.1 p)

found_first : (P : Attempt → Type 0) (t : Bool) (x a : Attempt) (rest : Option Attempt) → cond t (Some x) rest ≡ Some a → P x → (rest ≡ Some a → P a) → P a
found_first P true x a rest found p later = let same : x ≡ a = cc in subst P same p
found_first P false x a rest found p later = later found

pub each_found : (P : Attempt → Type 0) (task : TaskNo) (xs : List Attempt) (a : Attempt) → Each P xs → attempt_numbered task xs ≡ Some a → P a
each_found P task [] a each found = let no : ⊥ = cc in absurd no
each_found P task (x ∷ xs) a each found =
    found_first P (is_numbered task x) x a (attempt_numbered task xs) found each.0 (λ later. each_found P task xs a each.1 later)

-- what is found has that number
number_first : (t : Bool) (task : TaskNo) (x a : Attempt) (rest : Option Attempt) → is_numbered task x ≡ t → cond t (Some x) rest ≡ Some a → (rest ≡ Some a → a.number.0 ≡ task.0) → a.number.0 ≡ task.0
number_first true task x a rest is found later =
    let same : x ≡ a = cc in
    let equal : x.number.0 ≡ task.0 = grind (arith, nat_tests) in
    subst (λ w. w.number.0 ≡ task.0) same equal
number_first false task x a rest is found later = later found

pub found_number : (task : TaskNo) (xs : List Attempt) (a : Attempt) → attempt_numbered task xs ≡ Some a → a.number.0 ≡ task.0
found_number task [] a found = let no : ⊥ = cc in absurd no
found_number task (x ∷ xs) a found =
    number_first (is_numbered task x) task x a (attempt_numbered task xs) refl found (λ later. found_number task xs a later)
