-- Kept flows and their index after a flow was added or replaced.
use Rattle.std.proofs.Common.{◌≡◌, ◌∙◌, ℕ, zero, suc, ◌+◌, ◌-◌, ◌<◌, ◌≤◌, ◌||◌, ◌^◌, Bool, true, false, if◌then◌else◌, cond, List, [], ◌∷◌, ◌++◌, length, drop, slice_get, slice_set, map, length-append, Option, None, Some, IfSome, option_map, refl, sym, ap, subst, arith}
use Rattle.std.specs.List.{All, find}
use Rattle.std.specs.Borrow.{Bor}
use Rattle.std.specs.Option.{is_some, option_copied, option_map_or, option_or}
use Rattle.std.proofs.lemmas.Bool.Decides.{nat_tests}
use Rattle.std.proofs.Math.Seq.{drop-append_seam}
use Rattle.std.proofs.lemmas.List.Folds.{find-append}
use Rattle.std.proofs.lemmas.List.Elements.{All-append, All-cons, All-head, All-nil, All-tail, All-weaker}
use Rattle.wf_names.specs.declared.ids.FlowNo.{FlowNo}
use Rattle.wf_names.specs.declared.ids.TaskNo.{TaskNo}
use Rattle.wf_machine.specs.State.{Attempt, Flow, Kept, RisingTo, attempt_numbered}
use Rattle.wf_machine.specs.Flows.{flow_numbered, flow_of_task, has_attempt, is_flow}
use Rattle.wf_kept.specs.declared.index.Placed.{Placed}
use Rattle.wf_kept.specs.Rising.{IsPlaceOf, RisesTo}
use Rattle.wf_kept.specs.declared.kept.KeptFlow.{KeptFlow}
use Rattle.wf_kept.specs.Flows.{AreAttemptsBelow, FlowTable, IsGrown, IsGrownFlow, IsKeptIn, all_kept, attempt_count, attempt_number, flow_number, kept, new_attempts, with_kept}
use Rattle.wf_kept.specs.Index.{ArePlaced, AreTied, placed_in, placed_task, rows_of}
use Rattle.wf_kept.proofs.SearchLemmas.{found_at, found_itself, low_at, rises_append, rises_range}
use Rattle.wf_kept.proofs.IndexLemmas.{has_append, has_by_numbers, none_has, numbered_above, placed_append, rising_range, rows_rise, rows_tell}

-- ---- attempts

pub rising_lower : (low mid high : ℕ) (xs : List Attempt) → low ≤ mid → RisingTo mid high xs → RisingTo low high xs
rising_lower low mid high [] order rising = omega arith
rising_lower low mid high (x ∷ xs) order rising = (omega (arith, rising.0), rising.1)

pub rising_higher : (low mid high : ℕ) (xs : List Attempt) → RisingTo low mid xs → mid ≤ high → RisingTo low high xs
rising_higher low mid high [] rising order = omega arith
rising_higher low mid high (x ∷ xs) rising order = (rising.0, rising_higher (x.number.0 + 1) mid high xs rising.1 order)

rising_append : (low mid high : ℕ) (xs ys : List Attempt) → RisingTo low mid xs → RisingTo mid high ys → RisingTo low high (xs ++ ys)
rising_append low mid high [] ys below above = rising_lower low mid high ys below above
rising_append low mid high (x ∷ xs) ys below above = (below.0, rising_append (x.number.0 + 1) mid high xs ys below.1 above)

rising_by_numbers : (low high : ℕ) (xs ys : List Attempt) → map attempt_number xs ≡ map attempt_number ys → RisingTo low high ys → RisingTo low high xs
rising_by_numbers low high [] [] same rising = rising
rising_by_numbers low high [] (y ∷ ys) same rising = absurd cc
rising_by_numbers low high (x ∷ xs) [] same rising = absurd cc
rising_by_numbers low high (x ∷ xs) (y ∷ ys) same rising =
    let first : attempt_number x ≡ attempt_number y = cc in
    let others : map attempt_number xs ≡ map attempt_number ys = cc in
    (omega (arith, rising.0), rising_by_numbers (x.number.0 + 1) high xs ys others (subst (λ n. RisingTo (n + 1) high ys) (sym first) rising.1))

-- ---- a flow that was found

-- what is found passes the test
found_passes : {T : Type 0} (p : T → Bool) (xs : List T) (x : T) → find p xs ≡ Some x → p x ≡ true
found_passes p [] x found = absurd cc
found_passes p (y ∷ ys) x found =
    elim (p y) as (λ b. p y ≡ b → cond b (Some y) (find p ys) ≡ Some x → p x ≡ true) [
      | true ↦ λ passes f. let same : y ≡ x = cc in ap p (sym same) ∙ passes
      | false ↦ λ passes f. found_passes p ys x f
    ] refl found

all_found : {T : Type 0} (P : T → Type 0) (p : T → Bool) (xs : List T) (x : T) → All P xs → find p xs ≡ Some x → P x
all_found P p [] x all found = absurd cc
all_found P p (y ∷ ys) x all found =
    elim (p y) as (λ b. cond b (Some y) (find p ys) ≡ Some x → P x) [
      | true ↦ λ f. let same : y ≡ x = cc in subst P same (All-head P y ys all)
      | false ↦ λ f. all_found P p ys x (All-tail P y ys all) f
    ] found

found_in : (table : FlowTable) (task : TaskNo) (k : Kept) → RisesTo flow_number 1 table.next_flow table.kept → All (AreAttemptsBelow table.next_task) table.kept
    → flow_of_task task table.kept ≡ Some k → IsKeptIn table k
found_in table task k rising attempts found = record {
  itself = found_itself flow_number 1 table.next_flow (has_attempt task) table.kept k rising found;
  attempts = all_found (AreAttemptsBelow table.next_task) (has_attempt task) table.kept k attempts found;
}

pub found_kept : (table : FlowTable) (task : TaskNo) (r : Option (Bor KeptFlow)) → RisesTo flow_number 1 table.next_flow table.kept → All (AreAttemptsBelow table.next_task) table.kept
    → option_map kept (option_copied r) ≡ flow_of_task task table.kept → IfSome r (λ k. IsKeptIn table (kept k.now))
found_kept table task None rising attempts told = tt
found_kept table task (Some k) rising attempts told = found_in table task (kept k.now) rising attempts (sym told)

-- ---- what was placed stays so, and new attempts are placed

placed_before : (index rows : List Placed) (k : Kept) → ArePlaced index k → ArePlaced (index ++ rows) k
placed_before index rows k placed task has = placed_append task.0 index rows ∙ ap (λ o. option_or o (placed_in task.0 rows)) (placed task has)

-- attempts from the next number on are placed by their rows
placed_new : (flows : List Kept) (index : List Placed) (next_flow next_task task : ℕ) → AreTied flows index next_flow next_task
    → (flow : FlowNo) (more : List Attempt) → RisingTo next_task task more
    → (t : TaskNo) → is_some (attempt_numbered t more) ≡ true → placed_in t.0 (index ++ rows_of flow more) ≡ Some flow.0
placed_new flows index next_flow next_task task tied flow more rising t has =
    let none = none_has next_task t flows tied.attempts_rise (numbered_above next_task task t more rising has) in
    placed_append t.0 index (rows_of flow more)
    ∙ ap (λ o. option_or o (placed_in t.0 (rows_of flow more))) (tied.tells t ∙ ap (option_map flow_number) none)
    ∙ rows_tell flow t more
    ∙ ap (λ b. if b then Some flow.0 else None) has

-- ---- a flow is added

tells_more : (task : TaskNo) (index : List Placed) (flows : List Kept) (k : Kept) → placed_in task.0 index ≡ option_map flow_number (flow_of_task task flows)
    → placed_in task.0 (index ++ rows_of k.flow.number k.flow.attempts) ≡ option_map flow_number (flow_of_task task (flows ++ k ∷ []))
tells_more task index flows k told =
    placed_append task.0 index (rows_of k.flow.number k.flow.attempts)
    ∙ ap (λ o. option_or o (placed_in task.0 (rows_of k.flow.number k.flow.attempts))) told
    ∙ ap (λ o. option_or (option_map flow_number (flow_of_task task flows)) o) (rows_tell k.flow.number task k.flow.attempts)
    ∙ both (flow_of_task task flows) (has_attempt task k)
    ∙ ap (option_map flow_number) (sym (find-append (has_attempt task) flows (k ∷ [])))
  where
    both : (o : Option Kept) (b : Bool) → option_or (option_map flow_number o) (if b then Some k.flow.number.0 else None) ≡ option_map flow_number (option_or o (cond b (Some k) None))
    both None true = refl
    both None false = refl
    both (Some f) b = refl

pub tied_added : (flows : List Kept) (index : List Placed) (next_flow next_task task : ℕ) (k : Kept) → AreTied flows index next_flow next_task
    → k.flow.number.0 ≡ next_flow → next_flow < 2 ^ 56 → RisingTo next_task task k.flow.attempts → task ≤ 2 ^ 56
    → AreTied (flows ++ k ∷ []) (index ++ rows_of k.flow.number k.flow.attempts) (next_flow + 1) task
tied_added flows index next_flow next_task task k tied number left rising limit =
    let order = rising_range next_task task k.flow.attempts rising in
    let from_one = rises_range placed_task 1 next_task index tied.rows_rise in
    let above : RisesTo flow_number next_flow (next_flow + 1) (k ∷ []) = (omega arith, omega arith) in
    record {
      flows_rise = rises_append flow_number 1 next_flow (next_flow + 1) flows (k ∷ []) tied.flows_rise above;
      attempts_rise = All-append (AreAttemptsBelow task) flows (k ∷ []) (widened order)
          (All-cons (AreAttemptsBelow task) k [] (rising_lower 1 next_task task k.flow.attempts from_one rising) (All-nil (AreAttemptsBelow task)));
      rows_rise = rises_append placed_task 1 next_task task index _ tied.rows_rise (rows_rise k.flow.number next_task task k.flow.attempts rising);
      tells = λ t. tells_more t index flows k (tied.tells t);
      placed = All-append (ArePlaced all_rows) flows (k ∷ [])
          (All-weaker (ArePlaced index) (ArePlaced all_rows) (placed_before index (rows_of k.flow.number k.flow.attempts)) flows tied.placed)
          (All-cons (ArePlaced all_rows) k [] (placed_new flows index next_flow next_task task tied k.flow.number k.flow.attempts rising) (All-nil (ArePlaced all_rows)));
      flow_numbers = omega arith;
      task_numbers = limit;
    }
  where
    all_rows : List Placed
    all_rows = index ++ rows_of k.flow.number k.flow.attempts

    widened : next_task ≤ task → All (AreAttemptsBelow task) flows
    widened order = All-weaker (AreAttemptsBelow next_task) (AreAttemptsBelow task) (λ x rising. rising_higher 1 next_task task x.flow.attempts rising order) flows tied.attempts_rise

-- ---- a flow is replaced

module _ (k : Kept) where
  abbrev put : Kept → Kept
  put x = if is_flow k.flow.number x then k else x

  put_number : (x : Kept) → flow_number (put x) ≡ flow_number x
  put_number x = grind (arith, nat_tests)

  with_above : (low high : ℕ) (xs : List Kept) → RisesTo flow_number low high xs → flow_number k < low → with_kept k xs ≡ xs
  with_above low high [] rising above = refl
  with_above low high (x ∷ xs) rising above =
      grind (arith, nat_tests, rising.0, with_above (flow_number x + 1) high xs rising.1 (omega (arith, rising.0)))

  pub with_at : (low high : ℕ) (xs : List Kept) (i : ℕ) → RisesTo flow_number low high xs → IsPlaceOf flow_number (flow_number k) xs i → slice_set xs i k ≡ with_kept k xs
  with_at low high [] i rising there = refl
  with_at low high (x ∷ xs) zero rising there =
      let same : flow_number x ≡ flow_number k = cc in
      grind (arith, nat_tests, with_above (flow_number x + 1) high xs rising.1 (omega arith))
  with_at low high (x ∷ xs) (suc i) rising there =
      let above = low_at flow_number (flow_number x + 1) high (flow_number k) xs i rising.1 there in
      grind (arith, nat_tests, with_at (flow_number x + 1) high xs i rising.1 there)

  pub rises_with : (low high : ℕ) (xs : List Kept) → RisesTo flow_number low high xs → RisesTo flow_number low high (with_kept k xs)
  rises_with low high [] rising = rising
  rises_with low high (x ∷ xs) rising =
      let same = put_number x in
      (subst (λ n. low ≤ n) (sym same) rising.0, subst (λ n. RisesTo flow_number (n + 1) high (with_kept k xs)) (sym same) (rises_with (flow_number x + 1) high xs rising.1))

  pub all_with : (P Q : Kept → Type 0) (xs : List Kept) → ((x : Kept) → P x → Q x) → Q k → All P xs → All Q (with_kept k xs)
  all_with P Q [] weaker new all = All-nil Q
  all_with P Q (x ∷ xs) weaker new all =
      All-cons Q (put x) (with_kept k xs)
      (elim (is_flow k.flow.number x) as (λ b. Q (if b then k else x)) [
        | true ↦ new
        | false ↦ weaker x (All-head P x xs all)
      ]) (all_with P Q xs weaker new (All-tail P x xs all))

  -- where no flow passed a test and the new one does, it is what is found
  found_new : (p : Kept → Bool) (old : Kept) (xs : List Kept) → flow_numbered k.flow.number xs ≡ Some old → find p xs ≡ None → p k ≡ true → find p (with_kept k xs) ≡ Some k
  found_new p old [] found none new = absurd cc
  found_new p old (x ∷ xs) found none new =
      elim (p x) as (λ b. p x ≡ b → cond b (Some x) (find p xs) ≡ None → find p (put x ∷ with_kept k xs) ≡ Some k) [
        | true ↦ λ e n. absurd cc
        | false ↦ λ e n.
            elim (is_flow k.flow.number x) as (λ b. cond b (Some x) (flow_numbered k.flow.number xs) ≡ Some old
            → find p ((if b then k else x) ∷ with_kept k xs) ≡ Some k) [
              | true ↦ λ f. rw new refl
              | false ↦ λ f. rw e (found_new p old xs f n new)
            ] found
      ] refl none

  -- where the new flow passes a test as the old one does, a flow of the same number is found
  found_same : (p : Kept → Bool) (low high : ℕ) (old : Kept) (xs : List Kept) → RisesTo flow_number low high xs → flow_numbered k.flow.number xs ≡ Some old → p k ≡ p old
      → option_map flow_number (find p (with_kept k xs)) ≡ option_map flow_number (find p xs)
  found_same p low high old [] rising found same = refl
  found_same p low high old (x ∷ xs) rising found same =
      elim (is_flow k.flow.number x) as (λ b. is_flow k.flow.number x ≡ b → cond b (Some x) (flow_numbered k.flow.number xs) ≡ Some old
      → option_map flow_number (find p ((if b then k else x) ∷ with_kept k xs)) ≡ option_map flow_number (find p (x ∷ xs))) [
        | true ↦ λ e f.
            let is : x ≡ old = cc in
            let number : flow_number x ≡ flow_number k = grind (arith, nat_tests) in
            let passes : p k ≡ p x = same ∙ ap p (sym is) in
            let rest = with_above (flow_number x + 1) high xs rising.1 (omega arith) in
            rw (rest, passes)
            (elim (p x) as (λ b. option_map flow_number (cond b (Some k) (find p xs)) ≡ option_map flow_number (cond b (Some x) (find p xs))) [
              | true ↦ ap Some (sym number)
              | false ↦ refl
            ])
        | false ↦ λ e f.
            elim (p x) as (λ b. option_map flow_number (cond b (Some x) (find p (with_kept k xs))) ≡ option_map flow_number (cond b (Some x) (find p xs))) [
              | true ↦ refl
              | false ↦ found_same p (flow_number x + 1) high old xs rising.1 f same
            ]
      ] refl found

module _ (flows : List Kept) (index : List Placed) (next_flow next_task task : ℕ) (tied : AreTied flows index next_flow next_task) (k old : Kept)
    (found : flow_numbered k.flow.number flows ≡ Some old) (grown : IsGrown old.flow.attempts k.flow.attempts next_task task) where
  or_false : (b : Bool) → (b || false) ≡ b
  or_false true = refl
  or_false false = refl

  has_either : (t : TaskNo) → has_attempt t k ≡ (has_attempt t old || is_some (attempt_numbered t grown.more))
  has_either t =
      ap (λ xs. is_some (attempt_numbered t xs)) grown.is
      ∙ has_append t grown.first grown.more
      ∙ ap (λ b. b || is_some (attempt_numbered t grown.more)) (has_by_numbers t grown.first old.flow.attempts grown.numbers)

  tells_grown : (t : TaskNo) → placed_in t.0 (index ++ rows_of k.flow.number grown.more) ≡ option_map flow_number (flow_of_task t (with_kept k flows))
  tells_grown t =
      placed_append t.0 index (rows_of k.flow.number grown.more)
      ∙ ap (λ o. option_or o (placed_in t.0 (rows_of k.flow.number grown.more))) (tied.tells t)
      ∙ ap (λ o. option_or (option_map flow_number (flow_of_task t flows)) o) (rows_tell k.flow.number t grown.more)
      ∙ by_more (is_some (attempt_numbered t grown.more)) refl
    where
      or_none : {A : Type 0} (o : Option A) → option_or o None ≡ o
      or_none None = refl
      or_none (Some x) = refl

      or_true : (b : Bool) → (b || true) ≡ true
      or_true true = refl
      or_true false = refl

      by_more : (b : Bool) → is_some (attempt_numbered t grown.more) ≡ b
          → option_or (option_map flow_number (flow_of_task t flows)) (if b then Some k.flow.number.0 else None) ≡ option_map flow_number (flow_of_task t (with_kept k flows))
      by_more true more =
          let above = numbered_above next_task task t grown.more grown.rising more in
          let none : flow_of_task t flows ≡ None = none_has next_task t flows tied.attempts_rise above in
          let has : has_attempt t k ≡ true = has_either t ∙ ap (λ b. has_attempt t old || b) more ∙ or_true (has_attempt t old) in
          ap (λ o. option_or (option_map flow_number o) (Some k.flow.number.0)) none
          ∙ sym (ap (option_map flow_number) (found_new k (has_attempt t) old flows found none has))
      by_more false more =
          let has : has_attempt t k ≡ has_attempt t old = has_either t ∙ ap (λ b. has_attempt t old || b) more ∙ or_false (has_attempt t old) in
          or_none (option_map flow_number (flow_of_task t flows)) ∙ sym (found_same k (has_attempt t) 1 next_flow old flows tied.flows_rise found has)

  old_below : AreAttemptsBelow next_task old
  old_below = all_found (AreAttemptsBelow next_task) (is_flow k.flow.number) flows old tied.attempts_rise found

  old_placed : ArePlaced index old
  old_placed = all_found (ArePlaced index) (is_flow k.flow.number) flows old tied.placed found

  old_number : flow_number old ≡ flow_number k
  old_number = let passes = found_passes (is_flow k.flow.number) flows old found in grind (arith, nat_tests)

  placed_grown : ArePlaced (index ++ rows_of k.flow.number grown.more) k
  placed_grown t has = by_more (is_some (attempt_numbered t grown.more)) refl where
    by_more : (b : Bool) → is_some (attempt_numbered t grown.more) ≡ b → placed_in t.0 (index ++ rows_of k.flow.number grown.more) ≡ Some (flow_number k)
    by_more true more = placed_new flows index next_flow next_task task tied k.flow.number grown.more grown.rising t more
    by_more false more =
        let had : has_attempt t old ≡ true = sym (has_either t ∙ ap (λ b. has_attempt t old || b) more ∙ or_false (has_attempt t old)) ∙ has in
        placed_before index (rows_of k.flow.number grown.more) old old_placed t had ∙ ap Some old_number

  grown_below : AreAttemptsBelow task k
  grown_below =
      subst (λ xs. RisingTo 1 task xs) (sym grown.is)
      (rising_append 1 next_task task grown.first grown.more
      (rising_by_numbers 1 next_task grown.first old.flow.attempts grown.numbers old_below) grown.rising)

  pub tied_grown : task ≤ 2 ^ 56 → AreTied (with_kept k flows) (index ++ rows_of k.flow.number grown.more) next_flow task
  tied_grown limit =
      let order = rising_range next_task task grown.more grown.rising in
      record {
        flows_rise = rises_with k 1 next_flow flows tied.flows_rise;
        attempts_rise = all_with k (AreAttemptsBelow next_task) (AreAttemptsBelow task) flows (λ x rising. rising_higher 1 next_task task x.flow.attempts rising order) grown_below tied.attempts_rise;
        rows_rise = rises_append placed_task 1 next_task task index _ tied.rows_rise (rows_rise k.flow.number next_task task grown.more grown.rising);
        tells = tells_grown;
        placed = all_with k (ArePlaced index) (ArePlaced (index ++ rows_of k.flow.number grown.more)) flows (placed_before index (rows_of k.flow.number grown.more)) placed_grown tied.placed;
        flow_numbers = tied.flow_numbers;
        task_numbers = limit;
      }

-- ---- what stands at the place of a flow that has grown

numbers_counted : (xs ys : List Attempt) → map attempt_number xs ≡ map attempt_number ys → length xs ≡ length ys
numbers_counted [] [] same = refl
numbers_counted [] (y ∷ ys) same = absurd cc
numbers_counted (x ∷ xs) [] same = absurd cc
numbers_counted (x ∷ xs) (y ∷ ys) same = let others : map attempt_number xs ≡ map attempt_number ys = cc in ap suc (numbers_counted xs ys others)

pub set_kept : (flows : List KeptFlow) (i : ℕ) (k : KeptFlow) → all_kept (slice_set flows i k) ≡ slice_set (all_kept flows) i (kept k)
set_kept [] i k = refl
set_kept (x ∷ xs) zero k = refl
set_kept (x ∷ xs) (suc i) k = ap (λ l. kept x ∷ l) (set_kept xs i k)

pub within_kept : (n : ℕ) (flows : List KeptFlow) (i : ℕ) → IsPlaceOf flow_number n (all_kept flows) i → i < length flows
within_kept n [] i there = absurd cc
within_kept n (x ∷ xs) zero there = omega arith
within_kept n (x ∷ xs) (suc i) there = omega (arith, within_kept n xs i there)

module _ (flows : List Kept) (index : List Placed) (next_flow next_task : ℕ) (tied : AreTied flows index next_flow next_task)
    (table : FlowTable) (is : flows ≡ table.kept) (next : next_task ≡ table.next_task) (flow : Flow) (task : ℕ) (g : IsGrownFlow table flow task)
    (i : ℕ) (there : IsPlaceOf flow_number flow.number.0 flows i) (known : ℕ) (read : option_map attempt_count (slice_get flows i) ≡ Some known) where
  grown : IsGrown g.old.flow.attempts flow.attempts next_task task
  grown = subst (λ n. IsGrown g.old.flow.attempts flow.attempts n task) (sym next) g.grown

  found : flow_numbered flow.number flows ≡ Some g.old
  found = ap (flow_numbered flow.number) is ∙ g.found

  known_first : known ≡ length grown.first
  known_first =
      let at : option_map attempt_count (slice_get flows i) ≡ Some (attempt_count g.old) = ap (option_map attempt_count) (found_at flow_number 1 next_flow flow.number.0 flows i tied.flows_rise there ∙ found) in
      let same : known ≡ attempt_count g.old = cc in
      same ∙ sym (numbers_counted grown.first g.old.flow.attempts grown.numbers)

  more_are : drop known flow.attempts ≡ grown.more
  more_are = ap (λ n. drop n flow.attempts) known_first ∙ ap (drop (length grown.first)) grown.is ∙ drop-append_seam grown.first grown.more

  -- what is new are the attempts from the known ones on
  pub known_and_new : known + new_attempts flow table.kept ≡ length flow.attempts
  known_and_new =
      let sum : length flow.attempts ≡ length grown.first + length grown.more = ap length grown.is ∙ length-append grown.first grown.more in
      let old : length grown.first ≡ attempt_count g.old = numbers_counted grown.first g.old.flow.attempts grown.numbers in
      let new : new_attempts flow table.kept ≡ length flow.attempts - attempt_count g.old = ap (λ o. length flow.attempts - option_map_or attempt_count o 0) g.found in
      omega (arith, known_first)

  pub known_within : known ≤ length flow.attempts
  known_within = omega (arith, known_and_new)

  pub tied_replaced : (revision : ℕ) → task ≤ 2 ^ 56
      → AreTied (with_kept (record { flow = flow; revision = revision }) flows) (index ++ rows_of flow.number (drop known flow.attempts)) next_flow task
  tied_replaced revision limit =
      subst (λ more. AreTied (with_kept (record { flow = flow; revision = revision }) flows) (index ++ rows_of flow.number more) next_flow task) (sym more_are)
      (tied_grown flows index next_flow next_task task tied (record { flow = flow; revision = revision }) g.old found grown limit)
