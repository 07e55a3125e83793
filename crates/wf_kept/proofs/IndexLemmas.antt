-- What the index tells, and what it tells after rows were added.
use Rattle.std.proofs.Common.{◌≡◌, ◌∙◌, ℕ, zero, suc, ◌+◌, ◌<◌, ◌≤◌, ◌==◌, ◌||◌, true, false, if◌then◌else◌, cond, List, [], ◌∷◌, ◌++◌, get_or, slice_get, map, Option, None, Some, IfNone, option_map, refl, sym, ap, arith}
use Rattle.std.specs.List.{All, find}
use Rattle.std.specs.Option.{is_some, option_or}
use Rattle.std.proofs.lemmas.Bool.Decides.{nat_tests}
use Rattle.std.proofs.lemmas.List.Folds.{find-append}
use Rattle.std.proofs.lemmas.List.Elements.{All-head, All-tail}
use Rattle.wf_names.specs.declared.ids.FlowNo.{FlowNo}
use Rattle.wf_names.specs.declared.ids.TaskNo.{TaskNo}
use Rattle.wf_machine.specs.State.{Attempt, Kept, RisingTo, attempt_numbered, is_numbered}
use Rattle.wf_machine.specs.Flows.{flow_numbered, flow_of_task, has_attempt}
use Rattle.wf_kept.specs.declared.index.Placed.{Placed}
use Rattle.wf_kept.specs.Rising.{IsPlaceOf, RisesTo}
use Rattle.wf_kept.specs.Flows.{AreAttemptsBelow, attempt_number, flow_number}
use Rattle.wf_kept.specs.Index.{placed_in, placed_task, rows_of}
use Rattle.wf_kept.proofs.SearchLemmas.{Searched, found_at, found_itself}

abbrev placed_flow : Placed → ℕ
placed_flow p = p.flow.0

pub placed_none : (task : ℕ) (index : List Placed) (r : Option ℕ) → Searched placed_task task index r → IfNone r (placed_in task index ≡ None)
placed_none task index None told = ap (option_map placed_flow) told.none
placed_none task index (Some i) told = tt

some_at : (task : ℕ) (d : Placed) (xs : List Placed) (i : ℕ) → IsPlaceOf placed_task task xs i → Some (placed_flow (get_or xs i d)) ≡ option_map placed_flow (slice_get xs i)
some_at task d [] i there = absurd cc
some_at task d (x ∷ xs) zero there = refl
some_at task d (x ∷ xs) (suc i) there = some_at task d xs i there

pub placed_at : (high task : ℕ) (index : List Placed) (i : ℕ) (d : Placed) → RisesTo placed_task 1 high index → IsPlaceOf placed_task task index i
    → Some (placed_flow (get_or index i d)) ≡ placed_in task index
placed_at high task index i d rising there =
    some_at task d index i there ∙ ap (option_map placed_flow) (found_at placed_task 1 high task index i rising there)

-- ---- from the index to the flow

none_mapped : {A B : Type 0} (f : A → B) (o : Option A) → None ≡ option_map f o → o ≡ None
none_mapped f None told = refl
none_mapped f (Some x) told = absurd cc

pub not_placed : (task : TaskNo) (flows : List Kept) → None ≡ option_map flow_number (flow_of_task task flows) → flow_of_task task flows ≡ None
not_placed task flows told = none_mapped flow_number _ told

-- the flow whose number the index tells is the one that has the attempt
pub flow_placed : (high : ℕ) (task : TaskNo) (number : FlowNo) (flows : List Kept) → RisesTo flow_number 1 high flows
    → Some number.0 ≡ option_map flow_number (flow_of_task task flows) → flow_numbered number flows ≡ flow_of_task task flows
flow_placed high task number flows rising told = found (flow_of_task task flows) refl told
  where
    found : (o : Option Kept) → flow_of_task task flows ≡ o → Some number.0 ≡ option_map flow_number o → flow_numbered number flows ≡ flow_of_task task flows
    found None is told = absurd cc
    found (Some k) is told =
        let same : number.0 ≡ flow_number k = cc in
        ap (λ n. find (λ x. flow_number x == n) flows) same ∙ found_itself flow_number 1 high (has_attempt task) flows k rising is ∙ sym is

-- ---- numbers of attempts

pub numbered_above : (low high : ℕ) (task : TaskNo) (xs : List Attempt) → RisingTo low high xs → is_some (attempt_numbered task xs) ≡ true → low ≤ task.0
numbered_above low high task [] rising has = absurd cc
numbered_above low high task (x ∷ xs) rising has =
    elim (is_numbered task x) as (λ b. is_numbered task x ≡ b → is_some (cond b (Some x) (attempt_numbered task xs)) ≡ true → low ≤ task.0) [
      | true ↦ λ e h. grind (arith, nat_tests, rising.0)
      | false ↦ λ e h. omega (arith, rising.0, numbered_above (x.number.0 + 1) high task xs rising.1 h)
    ] refl has

pub rising_range : (low high : ℕ) (xs : List Attempt) → RisingTo low high xs → low ≤ high
rising_range low high [] rising = rising
rising_range low high (x ∷ xs) rising = omega (arith, rising.0, rising_range (x.number.0 + 1) high xs rising.1)

pub numbered_below : (low high : ℕ) (task : TaskNo) (xs : List Attempt) → RisingTo low high xs → is_some (attempt_numbered task xs) ≡ true → task.0 < high
numbered_below low high task [] rising has = absurd cc
numbered_below low high task (x ∷ xs) rising has =
    elim (is_numbered task x) as (λ b. is_numbered task x ≡ b → is_some (cond b (Some x) (attempt_numbered task xs)) ≡ true → task.0 < high) [
      | true ↦ λ e h. let range = rising_range (x.number.0 + 1) high xs rising.1 in grind (arith, nat_tests, range)
      | false ↦ λ e h. numbered_below (x.number.0 + 1) high task xs rising.1 h
    ] refl has

-- a number from `high` on is in no flow
pub none_has : (high : ℕ) (task : TaskNo) (flows : List Kept) → All (AreAttemptsBelow high) flows → high ≤ task.0 → flow_of_task task flows ≡ None
none_has high task [] below above = refl
none_has high task (k ∷ ks) below above =
    elim (has_attempt task k) as (λ b. has_attempt task k ≡ b → cond b (Some k) (flow_of_task task ks) ≡ None) [
      | true ↦ λ e. let low = numbered_below 1 high task k.flow.attempts (All-head (AreAttemptsBelow high) k ks below) e in absurd (omega arith)
      | false ↦ λ e. none_has high task ks (All-tail (AreAttemptsBelow high) k ks below) above
    ] refl

-- whether there is an attempt of a number hangs on the numbers alone
pub has_by_numbers : (task : TaskNo) (xs ys : List Attempt) → map attempt_number xs ≡ map attempt_number ys → is_some (attempt_numbered task xs) ≡ is_some (attempt_numbered task ys)
has_by_numbers task [] [] same = refl
has_by_numbers task [] (y ∷ ys) same = absurd cc
has_by_numbers task (x ∷ xs) [] same = absurd cc
has_by_numbers task (x ∷ xs) (y ∷ ys) same =
    let first : attempt_number x ≡ attempt_number y = cc in
    let others : map attempt_number xs ≡ map attempt_number ys = cc in
    ap (λ n. is_some (cond (n == task.0) (Some x) (attempt_numbered task xs))) first
    ∙ elim (attempt_number y == task.0) as (λ b. is_some (cond b (Some x) (attempt_numbered task xs)) ≡ is_some (cond b (Some y) (attempt_numbered task ys))) [
      | true ↦ refl
      | false ↦ has_by_numbers task xs ys others
    ]

pub has_append : (task : TaskNo) (xs ys : List Attempt) → is_some (attempt_numbered task (xs ++ ys)) ≡ (is_some (attempt_numbered task xs) || is_some (attempt_numbered task ys))
has_append task [] ys = refl
has_append task (x ∷ xs) ys =
    elim (is_numbered task x) as (λ b. is_some (cond b (Some x) (attempt_numbered task (xs ++ ys))) ≡ (is_some (cond b (Some x) (attempt_numbered task xs)) || is_some (attempt_numbered task ys))) [
      | true ↦ refl
      | false ↦ has_append task xs ys
    ]

-- ---- rows

pub rows_rise : (flow : FlowNo) (low high : ℕ) (xs : List Attempt) → RisingTo low high xs → RisesTo placed_task low high (rows_of flow xs)
rows_rise flow low high [] rising = rising
rows_rise flow low high (x ∷ xs) rising = (rising.0, rows_rise flow (x.number.0 + 1) high xs rising.1)

-- rows of a flow tell that flow of the numbers of its attempts
pub rows_tell : (flow : FlowNo) (task : TaskNo) (xs : List Attempt) → placed_in task.0 (rows_of flow xs) ≡ (if is_some (attempt_numbered task xs) then Some flow.0 else None)
rows_tell flow task [] = refl
rows_tell flow task (x ∷ xs) =
    elim (is_numbered task x) as (λ b. option_map placed_flow (cond b (Some (record { task = x.number; flow = flow })) (find (λ p. placed_task p == task.0) (rows_of flow xs)))
    ≡ (if is_some (cond b (Some x) (attempt_numbered task xs)) then Some flow.0 else None)) [
      | true ↦ refl
      | false ↦ rows_tell flow task xs
    ]

mapped_or : {A B : Type 0} (f : A → B) (o p : Option A) → option_map f (option_or o p) ≡ option_or (option_map f o) (option_map f p)
mapped_or f None p = refl
mapped_or f (Some x) p = refl

pub placed_append : (task : ℕ) (xs ys : List Placed) → placed_in task (xs ++ ys) ≡ option_or (placed_in task xs) (placed_in task ys)
placed_append task xs ys = ap (option_map placed_flow) (find-append (λ p. placed_task p == task) xs ys) ∙ mapped_or placed_flow _ _
