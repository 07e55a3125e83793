-- Kept flows and their index after a flow went, or lost its attempts.
use Rattle.std.proofs.Common.{◌≡◌, ◌∙◌, ℕ, zero, suc, ◌+◌, ◌<◌, ◌≤◌, ◌==◌, ◌++◌, ◌^◌, Bool, true, false, not, if◌then◌else◌, cond, List, [], ◌∷◌, filter, map, slice_get, Option, None, Some, IfSome, option_map, refl, sym, ap, subst, arith}
use Rattle.std.specs.List.{All, find, remove}
use Rattle.std.specs.Option.{is_some, option_map_or}
use Rattle.std.proofs.lemmas.Bool.Decides.{nat_tests}
use Rattle.std.proofs.lemmas.List.Elements.{All-cons, All-filter, All-head, All-nil, All-tail}
use Rattle.wf_names.specs.declared.ids.FlowNo.{FlowNo}
use Rattle.wf_names.specs.declared.ids.TaskNo.{TaskNo}
use Rattle.wf_machine.specs.State.{Flow, Kept, RisingTo, attempt_numbered}
use Rattle.wf_machine.specs.Flows.{emptied, flow_numbered, flow_of_task, has_attempt, is_flow, is_other, new_kept, removed, revised}
use Rattle.wf_kept.specs.declared.index.Placed.{Placed}
use Rattle.wf_kept.specs.declared.kept.KeptFlow.{KeptFlow}
use Rattle.wf_kept.specs.Rising.{IsPlaceOf, RisesTo}
use Rattle.wf_kept.specs.Flows.{AreAttemptsBelow, all_kept, flow_number, flow_removed, kept, revised_with, with_kept}
use Rattle.wf_kept.specs.Index.{ArePlaced, AreTied, is_elsewhere, placed_in, placed_task, rows_of}
use Rattle.wf_kept.proofs.SearchLemmas.{found_at, low_at, rises_lower, rises_range}
use Rattle.wf_kept.proofs.FlowLemmas.{all_with, rises_with, tied_grown}
use Rattle.wf_kept.proofs.RevisedLemmas.{flow_stays, tied_same}

-- ---- what a filter leaves of items whose numbers rise

-- the item, where it passes the test
abbrev passing : {T : Type 0} → (T → Bool) → Option T → Option T
passing test None = None
passing test (Some x) = if test x then Some x else None

module _ {T : Type 0} (number : T → ℕ) where
  rises_filtered : (test : T → Bool) (low high : ℕ) (xs : List T) → RisesTo number low high xs → RisesTo number low high (filter test xs)
  rises_filtered test low high [] rising = rising
  rises_filtered test low high (x ∷ xs) rising = by_test (test x) (rises_filtered test (number x + 1) high xs rising.1) where
    by_test : (b : Bool) → RisesTo number (number x + 1) high (filter test xs) → RisesTo number low high (cond b (x ∷ filter test xs) (filter test xs))
    by_test true rest = (rising.0, rest)
    by_test false rest = rises_lower number low (number x + 1) high (filter test xs) (omega (arith, rising.0)) rest

  none_below : (n low high : ℕ) (xs : List T) → RisesTo number low high xs → n < low → find (λ x. number x == n) xs ≡ None
  none_below n low high [] rising below = refl
  none_below n low high (x ∷ xs) rising below = grind (arith, nat_tests, rising.0, none_below n (number x + 1) high xs rising.1 (omega (arith, rising.0)))

  -- among those that pass a number is found where it is found among all, and what is found passes
  find_filtered : (test : T → Bool) (n low high : ℕ) (xs : List T) → RisesTo number low high xs
      → find (λ x. number x == n) (filter test xs) ≡ passing test (find (λ x. number x == n) xs)
  find_filtered test n low high [] rising = refl
  find_filtered test n low high (x ∷ xs) rising = by_tests (find_filtered test n (number x + 1) high xs rising.1) (test x) refl (number x == n) refl where
    none : (number x == n) ≡ true → find (λ x. number x == n) (filter test xs) ≡ None
    none same = none_below n (number x + 1) high (filter test xs) (rises_filtered test (number x + 1) high xs rising.1) (grind (arith, nat_tests))

    by_tests : find (λ x. number x == n) (filter test xs) ≡ passing test (find (λ x. number x == n) xs) → (b : Bool) → test x ≡ b → (c : Bool) → (number x == n) ≡ c
        → find (λ x. number x == n) (cond b (x ∷ filter test xs) (filter test xs)) ≡ passing test (cond c (Some x) (find (λ x. number x == n) xs))
    by_tests rest true passes true same = ap (λ c. cond c (Some x) (find (λ x. number x == n) (filter test xs))) same ∙ sym (ap (λ b. if b then Some x else None) passes)
    by_tests rest true passes false same = ap (λ c. cond c (Some x) (find (λ x. number x == n) (filter test xs))) same ∙ rest
    by_tests rest false passes true same = none same ∙ sym (ap (λ b. if b then Some x else None) passes)
    by_tests rest false passes false same = rest

-- ---- the index without the rows of a flow

-- the number, unless it is n
abbrev without : ℕ → Option ℕ → Option ℕ
without n None = None
without n (Some m) = if m == n then None else Some m

placed_elsewhere : (n : FlowNo) (task high : ℕ) (index : List Placed) → RisesTo placed_task 1 high index
    → placed_in task (filter (is_elsewhere n) index) ≡ without n.0 (placed_in task index)
placed_elsewhere n task high index rising =
    ap (option_map (λ (p : Placed). p.flow.0)) (find_filtered placed_task (is_elsewhere n) task 1 high index rising)
    ∙ by_row (find (λ p. placed_task p == task) index)
  where
    by_test : (p : Placed) (b : Bool) → option_map (λ (p : Placed). p.flow.0) (if not b then Some p else None) ≡ (if b then None else Some p.flow.0)
    by_test p true = refl
    by_test p false = refl

    by_row : (o : Option Placed) → option_map (λ (p : Placed). p.flow.0) (passing (is_elsewhere n) o) ≡ without n.0 (option_map (λ (p : Placed). p.flow.0) o)
    by_row None = refl
    by_row (Some p) = by_test p (p.flow.0 == n.0)

-- ---- flows and index fit where a flow and its rows are left out

module _ (n : FlowNo) (index : List Placed) where
  -- where the index tells of the attempt that it is in that flow, no other flow has it
  none_other : (task : TaskNo) (xs : List Kept) → All (ArePlaced index) xs → placed_in task.0 index ≡ Some n.0 → flow_of_task task (filter (is_other n) xs) ≡ None
  none_other task [] placed told = refl
  none_other task (x ∷ xs) placed told =
      by_tests (none_other task xs (All-tail (ArePlaced index) x xs placed) told) (is_flow n x) refl (has_attempt task x) refl
    where
      it : has_attempt task x ≡ true → flow_number x ≡ n.0
      it has = let both : Some (flow_number x) ≡ Some n.0 = sym (All-head (ArePlaced index) x xs placed task has) ∙ told in cc

      by_tests : flow_of_task task (filter (is_other n) xs) ≡ None → (b : Bool) → is_flow n x ≡ b → (c : Bool) → has_attempt task x ≡ c → flow_of_task task (cond (not b) (x ∷ filter (is_other n) xs) (filter (is_other n) xs)) ≡ None
      by_tests rest true same c has = rest
      by_tests rest false same true has = let number = it has in absurd (grind (arith, nat_tests))
      by_tests rest false same false has = ap (λ c. cond c (Some x) (flow_of_task task (filter (is_other n) xs))) has ∙ rest

  -- the flow that has the attempt is found among the others, unless it is that flow
  found_other : (task : TaskNo) (xs : List Kept) → All (ArePlaced index) xs
      → option_map flow_number (flow_of_task task (filter (is_other n) xs)) ≡ without n.0 (option_map flow_number (flow_of_task task xs))
  found_other task [] placed = refl
  found_other task (x ∷ xs) placed =
      by_tests (found_other task xs (All-tail (ArePlaced index) x xs placed)) (is_flow n x) refl (has_attempt task x) refl
    where
      it : is_flow n x ≡ true → flow_number x ≡ n.0
      it same = grind (arith, nat_tests)

      none : is_flow n x ≡ true → has_attempt task x ≡ true → flow_of_task task (filter (is_other n) xs) ≡ None
      none same has = none_other task xs (All-tail (ArePlaced index) x xs placed) (All-head (ArePlaced index) x xs placed task has ∙ ap Some (it same))

      by_tests : option_map flow_number (flow_of_task task (filter (is_other n) xs)) ≡ without n.0 (option_map flow_number (flow_of_task task xs)) → (b : Bool) → is_flow n x ≡ b → (c : Bool) → has_attempt task x ≡ c
          → option_map flow_number (flow_of_task task (cond (not b) (x ∷ filter (is_other n) xs) (filter (is_other n) xs))) ≡ without n.0 (option_map flow_number (cond c (Some x) (flow_of_task task xs)))
      by_tests rest true same true has = ap (option_map flow_number) (none same has) ∙ sym (ap (λ b. if b then None else Some (flow_number x)) same)
      by_tests rest true same false has = rest
      by_tests rest false same true has = ap (λ c. option_map flow_number (cond c (Some x) (flow_of_task task (filter (is_other n) xs)))) has ∙ sym (ap (λ b. if b then None else Some (flow_number x)) same)
      by_tests rest false same false has = ap (λ c. option_map flow_number (cond c (Some x) (flow_of_task task (filter (is_other n) xs)))) has ∙ rest

  module _ (high : ℕ) (rising : RisesTo placed_task 1 high index) where
    placed_other : (k : Kept) → ArePlaced index k → is_flow n k ≡ false → ArePlaced (filter (is_elsewhere n) index) k
    placed_other k placed other task has =
        placed_elsewhere n task.0 high index rising
        ∙ ap (without n.0) (placed task has)
        ∙ ap (λ b. if b then None else Some (flow_number k)) other

    all_placed : (xs : List Kept) → All (ArePlaced index) xs → All (ArePlaced (filter (is_elsewhere n) index)) (filter (is_other n) xs)
    all_placed [] placed = All-nil (ArePlaced (filter (is_elsewhere n) index))
    all_placed (x ∷ xs) placed = by_test (all_placed xs (All-tail (ArePlaced index) x xs placed)) (is_flow n x) refl where
      by_test : All (ArePlaced (filter (is_elsewhere n) index)) (filter (is_other n) xs) → (b : Bool) → is_flow n x ≡ b → All (ArePlaced (filter (is_elsewhere n) index)) (cond (not b) (x ∷ filter (is_other n) xs) (filter (is_other n) xs))
      by_test rest true same = rest
      by_test rest false other = All-cons (ArePlaced (filter (is_elsewhere n) index)) x (filter (is_other n) xs) (placed_other x (All-head (ArePlaced index) x xs placed) other) rest

tied_without : (n : FlowNo) (flows : List Kept) (index : List Placed) (next_flow next_task : ℕ) → AreTied flows index next_flow next_task
    → AreTied (filter (is_other n) flows) (filter (is_elsewhere n) index) next_flow next_task
tied_without n flows index next_flow next_task tied = record {
  flows_rise = rises_filtered flow_number (is_other n) 1 next_flow flows tied.flows_rise;
  attempts_rise = All-filter (is_other n) (AreAttemptsBelow next_task) flows tied.attempts_rise;
  rows_rise = rises_filtered placed_task (is_elsewhere n) 1 next_task index tied.rows_rise;
  tells = λ t. placed_elsewhere n t.0 next_task index tied.rows_rise ∙ ap (without n.0) (tied.tells t) ∙ sym (found_other n index t flows tied.placed);
  placed = all_placed n index next_task tied.rows_rise flows tied.placed;
  flow_numbers = tied.flow_numbers;
  task_numbers = tied.task_numbers;
}

-- ---- a flow goes

-- those that are left are revised as their parent's attempts go
removed_left : (place : ℕ) (f : Flow) (xs : List Kept) → removed place f xs ≡ map (revised_with place f (emptied f)) (filter (is_other f.number) xs)
removed_left place f [] = refl
removed_left place f (x ∷ xs) = by_test (removed_left place f xs) (is_flow f.number x) refl where
  itself : (f.number.0 == f.number.0) ≡ true
  itself = grind (arith, nat_tests)

  by_test : removed place f xs ≡ map (revised_with place f (emptied f)) (filter (is_other f.number) xs) → (b : Bool) → is_flow f.number x ≡ b
      → filter (is_other f.number) ((if b then new_kept place (emptied f) else revised_with place f (emptied f) x) ∷ map (revised place f (emptied f)) xs)
      ≡ map (revised_with place f (emptied f)) (cond (not b) (x ∷ filter (is_other f.number) xs) (filter (is_other f.number) xs))
  by_test rest true same =
      ap (λ b. cond (not b) (new_kept place (emptied f) ∷ removed place f xs) (removed place f xs)) itself
      ∙ rest
  by_test rest false other =
      ap (λ (g : Flow). cond (not (g.number.0 == f.number.0)) (revised_with place f (emptied f) x ∷ removed place f xs) (removed place f xs)) (flow_stays place f (emptied f) x)
      ∙ ap (λ b. cond (not b) (revised_with place f (emptied f) x ∷ removed place f xs) (removed place f xs)) other
      ∙ ap (λ ks. revised_with place f (emptied f) x ∷ ks) rest

others_above : (n : FlowNo) (low high : ℕ) (xs : List Kept) → RisesTo flow_number low high xs → n.0 < low → filter (is_other n) xs ≡ xs
others_above n low high [] rising above = refl
others_above n low high (x ∷ xs) rising above =
    let other : is_flow n x ≡ false = grind (arith, nat_tests, rising.0) in
    ap (λ b. cond (not b) (x ∷ filter (is_other n) xs) (filter (is_other n) xs)) other
    ∙ ap (λ ks. x ∷ ks) (others_above n (flow_number x + 1) high xs rising.1 (omega (arith, rising.0)))

-- without the flow at the place of a number those of other numbers are left
others_left : (n : FlowNo) (low high : ℕ) (xs : List Kept) (i : ℕ) → RisesTo flow_number low high xs → IsPlaceOf flow_number n.0 xs i → remove xs i ≡ filter (is_other n) xs
others_left n low high [] i rising there = absurd cc
others_left n low high (x ∷ xs) zero rising there =
    let number : flow_number x ≡ n.0 = cc in
    let same : is_flow n x ≡ true = grind (arith, nat_tests) in
    sym (ap (λ b. cond (not b) (x ∷ filter (is_other n) xs) (filter (is_other n) xs)) same
    ∙ others_above n (flow_number x + 1) high xs rising.1 (omega arith))
others_left n low high (x ∷ xs) (suc i) rising there =
    let above = low_at flow_number (flow_number x + 1) high n.0 xs i rising.1 there in
    let other : is_flow n x ≡ false = grind (arith, nat_tests) in
    ap (λ ks. x ∷ ks) (others_left n (flow_number x + 1) high xs i rising.1 there)
    ∙ sym (ap (λ b. cond (not b) (x ∷ filter (is_other n) xs) (filter (is_other n) xs)) other)

-- what is left of the flows where that at the place of the number is taken out, and the others are revised then
pub taken_out : (place : ℕ) (gone : Flow) (high : ℕ) (xs : List Kept) (i : ℕ) → RisesTo flow_number 1 high xs → IsPlaceOf flow_number gone.number.0 xs i
    → map (revised_with place gone (emptied gone)) (remove xs i) ≡ removed place gone xs
taken_out place gone high xs i rising there =
    ap (map (revised_with place gone (emptied gone))) (others_left gone.number 1 high xs i rising there) ∙ sym (removed_left place gone xs)

pub remove_kept : (flows : List KeptFlow) (i : ℕ) → all_kept (remove flows i) ≡ remove (all_kept flows) i
remove_kept [] zero = refl
remove_kept [] (suc i) = refl
remove_kept (x ∷ xs) zero = refl
remove_kept (x ∷ xs) (suc i) = ap (λ l. kept x ∷ l) (remove_kept xs i)

tied_removed : (place : ℕ) (gone : Flow) (flows : List Kept) (index : List Placed) (next_flow next_task : ℕ) → AreTied flows index next_flow next_task
    → AreTied (removed place gone flows) (filter (is_elsewhere gone.number) index) next_flow next_task
tied_removed place gone flows index next_flow next_task tied =
    subst (λ ks. AreTied ks (filter (is_elsewhere gone.number) index) next_flow next_task) (sym (removed_left place gone flows))
    (tied_same (revised_with place gone (emptied gone)) (flow_stays place gone (emptied gone)) (filter (is_other gone.number) flows) (filter (is_elsewhere gone.number) index) next_flow next_task
    (tied_without gone.number flows index next_flow next_task tied))

-- the flow at the place of its number is taken out
module _ (place : ℕ) (n : FlowNo) (flows left : List Kept) (index : List Placed) (next_flow next_task i : ℕ) (tied : AreTied flows index next_flow next_task)
    (there : IsPlaceOf flow_number n.0 flows i) (out : IfSome (slice_get flows i) (λ gone. left ≡ removed place gone.flow flows)) where
  gone_at : (gone : Kept) × (slice_get flows i ≡ Some gone) × (flow_number gone ≡ n.0) × (left ≡ removed place gone.flow flows)
  gone_at = by_place (slice_get flows i) refl there out where
    by_place : (o : Option Kept) → slice_get flows i ≡ o → option_map flow_number o ≡ Some n.0 → IfSome o (λ gone. left ≡ removed place gone.flow flows)
        → (gone : Kept) × (slice_get flows i ≡ Some gone) × (flow_number gone ≡ n.0) × (left ≡ removed place gone.flow flows)
    by_place None is number out = absurd cc
    by_place (Some gone) is number out = (gone, is, cc, out)

  pub left_removed : left ≡ flow_removed place n flows
  left_removed =
      let found : flow_numbered n flows ≡ Some gone_at.0 = sym (found_at flow_number 1 next_flow n.0 flows i tied.flows_rise there) ∙ gone_at.1 in
      gone_at.3 ∙ sym (ap (λ o. option_map_or (λ (k : Kept). removed place k.flow flows) o flows) found)

  pub tied_left : AreTied left (filter (is_elsewhere n) index) next_flow next_task
  tied_left =
      subst (λ ks. AreTied ks (filter (is_elsewhere n) index) next_flow next_task) (sym gone_at.3)
      (subst (λ m. AreTied (removed place gone_at.0.flow flows) (filter (λ (p : Placed). not (p.flow.0 == m)) index) next_flow next_task) gone_at.2
      (tied_removed place gone_at.0.flow flows index next_flow next_task tied))

-- ---- a flow begins anew

module _ (k : Kept) (none : k.flow.attempts ≡ []) where
  has_none : (task : TaskNo) → has_attempt task k ≡ false
  has_none task = ap (λ attempts. is_some (attempt_numbered task attempts)) none

  found_emptied : (task : TaskNo) (xs : List Kept) → option_map flow_number (flow_of_task task (with_kept k xs)) ≡ option_map flow_number (flow_of_task task (filter (is_other k.flow.number) xs))
  found_emptied task [] = refl
  found_emptied task (x ∷ xs) = by_test (found_emptied task xs) (is_flow k.flow.number x) where
    by_attempt : option_map flow_number (flow_of_task task (with_kept k xs)) ≡ option_map flow_number (flow_of_task task (filter (is_other k.flow.number) xs)) → (b : Bool) → option_map flow_number (cond b (Some x) (flow_of_task task (with_kept k xs))) ≡ option_map flow_number (cond b (Some x) (flow_of_task task (filter (is_other k.flow.number) xs)))
    by_attempt rest true = refl
    by_attempt rest false = rest

    by_test : option_map flow_number (flow_of_task task (with_kept k xs)) ≡ option_map flow_number (flow_of_task task (filter (is_other k.flow.number) xs)) → (b : Bool) → option_map flow_number (flow_of_task task ((if b then k else x) ∷ with_kept k xs))
        ≡ option_map flow_number (flow_of_task task (cond (not b) (x ∷ filter (is_other k.flow.number) xs) (filter (is_other k.flow.number) xs)))
    by_test rest true = ap (λ b. option_map flow_number (cond b (Some k) (flow_of_task task (with_kept k xs)))) (has_none task) ∙ rest
    by_test rest false = by_attempt rest (has_attempt task x)

  placed_emptied : (index : List Placed) (xs : List Kept) → All (ArePlaced index) (filter (is_other k.flow.number) xs) → All (ArePlaced index) (with_kept k xs)
  placed_emptied index [] placed = placed
  placed_emptied index (x ∷ xs) placed = by_test (placed_emptied index xs) (is_flow k.flow.number x) placed where
    mine : ArePlaced index k
    mine task has = let no = has_none task in absurd cc

    by_test : (All (ArePlaced index) (filter (is_other k.flow.number) xs) → All (ArePlaced index) (with_kept k xs)) → (b : Bool) → All (ArePlaced index) (cond (not b) (x ∷ filter (is_other k.flow.number) xs) (filter (is_other k.flow.number) xs)) → All (ArePlaced index) ((if b then k else x) ∷ with_kept k xs)
    by_test rest true others = All-cons (ArePlaced index) k (with_kept k xs) mine (rest others)
    by_test rest false others =
        All-cons (ArePlaced index) x (with_kept k xs) (All-head (ArePlaced index) x (filter (is_other k.flow.number) xs) others)
        (rest (All-tail (ArePlaced index) x (filter (is_other k.flow.number) xs) others))

  tied_emptied : (flows : List Kept) (index : List Placed) (next_flow next_task : ℕ) → AreTied flows index next_flow next_task
      → AreTied (with_kept k flows) (filter (is_elsewhere k.flow.number) index) next_flow next_task
  tied_emptied flows index next_flow next_task tied =
      let left = tied_without k.flow.number flows index next_flow next_task tied in
      record {
        flows_rise = rises_with k 1 next_flow flows tied.flows_rise;
        attempts_rise = all_with k (AreAttemptsBelow next_task) (AreAttemptsBelow next_task) flows (λ x below. below) below tied.attempts_rise;
        rows_rise = left.rows_rise;
        tells = λ t. left.tells t ∙ sym (found_emptied t flows);
        placed = placed_emptied (filter (is_elsewhere k.flow.number) index) flows left.placed;
        flow_numbers = tied.flow_numbers;
        task_numbers = tied.task_numbers;
      }
    where
      below : AreAttemptsBelow next_task k
      below = subst (λ attempts. RisingTo 1 next_task attempts) (sym none) (rises_range placed_task 1 next_task index tied.rows_rise)

-- a flow is found in the place of that of its number
found_with : (k old : Kept) (xs : List Kept) → flow_numbered k.flow.number xs ≡ Some old → flow_numbered k.flow.number (with_kept k xs) ≡ Some k
found_with k old [] found = absurd cc
found_with k old (x ∷ xs) found = by_test (found_with k old xs) (is_flow k.flow.number x) refl found where
  itself : is_flow k.flow.number k ≡ true
  itself = grind (arith, nat_tests)

  by_test : (flow_numbered k.flow.number xs ≡ Some old → flow_numbered k.flow.number (with_kept k xs) ≡ Some k) → (b : Bool) → is_flow k.flow.number x ≡ b → cond b (Some x) (flow_numbered k.flow.number xs) ≡ Some old → flow_numbered k.flow.number ((if b then k else x) ∷ with_kept k xs) ≡ Some k
  by_test rest true same f = ap (λ b. cond b (Some k) (flow_numbered k.flow.number (with_kept k xs))) itself
  by_test rest false other f = ap (λ b. cond b (Some x) (flow_numbered k.flow.number (with_kept k xs))) other ∙ rest f

-- of two flows that are put in the same place the second stands there
with_twice : (j k : Kept) (xs : List Kept) → j.flow.number ≡ k.flow.number → with_kept k (with_kept j xs) ≡ with_kept k xs
with_twice j k [] same = refl
with_twice j k (x ∷ xs) same =
    ap (λ n. (if is_flow k.flow.number (if is_flow n x then j else x) then k else if is_flow n x then j else x) ∷ with_kept k (with_kept j xs)) same
    ∙ ap (λ y. y ∷ with_kept k (with_kept j xs)) (by_test (is_flow k.flow.number x) refl)
    ∙ ap (λ ks. (if is_flow k.flow.number x then k else x) ∷ ks) (with_twice j k xs same)
  where
    mine : is_flow k.flow.number j ≡ true
    mine = let numbers = ap (λ (n : FlowNo). n.0) same in grind (arith, nat_tests)

    by_test : (b : Bool) → is_flow k.flow.number x ≡ b → (if is_flow k.flow.number (if b then j else x) then k else if b then j else x) ≡ (if b then k else x)
    by_test true is = ap (λ b. if b then k else j) mine
    by_test false is = ap (λ b. if b then k else x) is

pub tied_anew : (k old : Kept) (flows : List Kept) (index : List Placed) (next_flow next_task task : ℕ) → AreTied flows index next_flow next_task
    → flow_numbered k.flow.number flows ≡ Some old → RisingTo next_task task k.flow.attempts → task ≤ 2 ^ 56
    → AreTied (with_kept k flows) (filter (is_elsewhere k.flow.number) index ++ rows_of k.flow.number k.flow.attempts) next_flow task
tied_anew k old flows index next_flow next_task task tied found rising limit =
    subst (λ ks. AreTied ks (filter (is_elsewhere k.flow.number) index ++ rows_of k.flow.number k.flow.attempts) next_flow task) (with_twice bare k flows refl)
    (tied_grown (with_kept bare flows) (filter (is_elsewhere k.flow.number) index) next_flow next_task task
    (tied_emptied bare refl flows index next_flow next_task tied) k bare (found_with bare old flows found)
    (record { first = []; more = k.flow.attempts; is = refl; numbers = refl; rising = rising }) limit)
  where
    bare : Kept
    bare = record { flow = emptied k.flow; revision = k.revision }
