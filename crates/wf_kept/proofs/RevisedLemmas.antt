-- Kept flows after the change of one: which of the others are revised.
use Rattle.std.proofs.Common.{◌≡◌, ◌∙◌, ℕ, zero, suc, ◌+◌, ◌<◌, ◌≤◌, Bool, true, false, cond, if◌then◌else◌, List, [], ◌∷◌, ◌++◌, length, take, drop, slice_get, slice_set, map, Option, None, Some, IfSome, option_map, refl, sym, ap, subst, arith}
use Rattle.std.specs.List.{All}
use Rattle.std.specs.Option.{is_some, option_map_or}
use Rattle.std.proofs.lemmas.List.Elements.{All-cons, All-head, All-nil, All-tail}
use Rattle.wf_names.specs.declared.ids.TaskNo.{TaskNo}
use Rattle.wf_machine.specs.State.{Flow, Kept, RisingTo, attempt_numbered}
use Rattle.wf_machine.specs.Flows.{flow_numbered, flow_of_task, has_attempt, is_concerned, is_flow, new_kept, revised}
use Rattle.wf_kept.specs.Rising.{RisesTo}
use Rattle.wf_kept.specs.Index.{AreTied, placed_in}
use Rattle.wf_kept.specs.declared.index.Placed.{Placed}
use Rattle.wf_kept.specs.declared.kept.KeptFlow.{KeptFlow}
use Rattle.wf_kept.specs.Flows.{all_kept, flow_changed, flow_number, kept, revised_with, with_kept}
use Rattle.wf_kept.proofs.FlowLemmas.{set_kept}

-- a flow that is put in its place, and then the others
pub revised_put : (place : ℕ) (before now : Flow) (xs : List Kept) → map (revised_with place before now) (with_kept (new_kept place now) xs) ≡ map (revised place before now) xs
revised_put place before now [] = refl
revised_put place before now (x ∷ xs) =
    ap (λ k. k ∷ map (revised_with place before now) (with_kept (new_kept place now) xs)) (by_test (is_flow now.number x))
    ∙ ap (λ ks. revised place before now x ∷ ks) (revised_put place before now xs)
  where
    by_self : (b : Bool) → (if b then record (new_kept place now) { revision = place } else new_kept place now) ≡ new_kept place now
    by_self true = refl
    by_self false = refl

    by_test : (b : Bool) → revised_with place before now (if b then new_kept place now else x) ≡ (if b then new_kept place now else if is_concerned before now x.flow then record x { revision = place } else x)
    by_test true = by_self (is_concerned before now now)
    by_test false = refl

-- ---- one after another, from the last

-- those from n on are changed
abbrev pub changed_from : (Kept → Kept) → ℕ → List Kept → List Kept
changed_from f n xs = take n xs ++ map f (drop n xs)

pub changed_more : (f : Kept → Kept) (xs : List Kept) (n : ℕ) (k : Kept) → slice_get xs n ≡ Some k → slice_set (changed_from f (suc n) xs) n (f k) ≡ changed_from f n xs
changed_more f [] n k h = cc
changed_more f (x ∷ xs) zero k h = let same : x ≡ k = cc in ap (λ y. f y ∷ map f xs) (sym same)
changed_more f (x ∷ xs) (suc n) k h = ap (λ l. x ∷ l) (changed_more f xs n k h)

pub kept_more : (f : Kept → Kept) (xs : List Kept) (n : ℕ) (k : Kept) → slice_get xs n ≡ Some k → f k ≡ k → changed_from f (suc n) xs ≡ changed_from f n xs
kept_more f [] n k h same = cc
kept_more f (x ∷ xs) zero k h same = let is : x ≡ k = cc in ap (λ y. y ∷ map f xs) (is ∙ sym same ∙ ap f (sym is))
kept_more f (x ∷ xs) (suc n) k h same = ap (λ l. x ∷ l) (kept_more f xs n k h same)

-- the next one isn't changed yet
pub next_there : (f : Kept → Kept) (xs : List Kept) (n : ℕ) (k : Kept) → slice_get xs n ≡ Some k → slice_get (changed_from f (suc n) xs) n ≡ Some k
next_there f [] n k h = cc
next_there f (x ∷ xs) zero k h = h
next_there f (x ∷ xs) (suc n) k h = next_there f xs n k h

-- a change of revisions leaves each flow
pub flow_there : (f : Kept → Kept) (xs : List Kept) (n i : ℕ) → ((k : Kept) → (f k).flow ≡ k.flow) → option_map (λ (k : Kept). k.flow) (slice_get (changed_from f n xs) i) ≡ option_map (λ (k : Kept). k.flow) (slice_get xs i)
flow_there f [] zero i same = refl
flow_there f [] (suc n) i same = refl
flow_there f (x ∷ xs) zero zero same = ap Some (same x)
flow_there f (x ∷ xs) zero (suc i) same = flow_there f xs zero i same
flow_there f (x ∷ xs) (suc n) zero same = refl
flow_there f (x ∷ xs) (suc n) (suc i) same = flow_there f xs n i same

pub flow_stays : (place : ℕ) (before now : Flow) (k : Kept) → (revised_with place before now k).flow ≡ k.flow
flow_stays place before now k = by_test (is_concerned before now k.flow) where
  by_test : (b : Bool) → (if b then record k { revision = place } else k).flow ≡ k.flow
  by_test true = refl
  by_test false = refl

pub get_kept : (flows : List KeptFlow) (i : ℕ) → slice_get (all_kept flows) i ≡ option_map kept (slice_get flows i)
get_kept [] i = refl
get_kept (x ∷ xs) zero = refl
get_kept (x ∷ xs) (suc i) = get_kept xs i

-- ---- one more of them is looked at

get_within : {T : Type 0} (xs : List T) (n : ℕ) → n < length xs → (x : T) × (slice_get xs n ≡ Some x)
get_within [] n lt = absurd (omega (arith, lt))
get_within (x ∷ xs) zero lt = (x, refl)
get_within (x ∷ xs) (suc n) lt = get_within xs n (omega (arith, lt))

module _ (f : Kept → Kept) (xs : List Kept) (n : ℕ) (ys : List KeptFlow) (k : Kept) (so_far : all_kept ys ≡ changed_from f (suc n) xs) (there : slice_get xs n ≡ Some k) where
  present : slice_get (all_kept ys) n ≡ Some k
  present = ap (λ zs. slice_get zs n) so_far ∙ next_there f xs n k there

  -- it stays
  pub one_left : f k ≡ k → all_kept ys ≡ changed_from f n xs
  one_left same = so_far ∙ kept_more f xs n k there same

  -- it gets that revision
  pub one_revised : (place : ℕ) (zs : List KeptFlow) → f k ≡ record k { revision = place }
      → IfSome (slice_get ys n) (λ y. zs ≡ slice_set ys n (record y { revision = place })) → all_kept zs ≡ changed_from f n xs
  one_revised place zs revised set = by_item (slice_get ys n) refl set where
    by_item : (o : Option KeptFlow) → slice_get ys n ≡ o → IfSome o (λ y. zs ≡ slice_set ys n (record y { revision = place })) → all_kept zs ≡ changed_from f n xs
    by_item None none h = let no : None ≡ Some k = sym (get_kept ys n ∙ ap (option_map kept) none) ∙ present in absurd cc
    by_item (Some y) is h =
        let found : Some (kept y) ≡ Some k = sym (get_kept ys n ∙ ap (option_map kept) is) ∙ present in
        let same : kept y ≡ k = cc in
        ap all_kept h ∙ set_kept ys n (record y { revision = place })
        ∙ ap (slice_set (all_kept ys) n) (ap (λ (x : Kept). record x { revision = place }) same ∙ sym revised)
        ∙ ap (λ l. slice_set l n (f k)) so_far
        ∙ changed_more f xs n k there

-- what stands at a place that wasn't looked at stood there at first
pub stood_there : (f : Kept → Kept) (xs : List Kept) (n : ℕ) (ys : List KeptFlow) (y : KeptFlow) → all_kept ys ≡ changed_from f (suc n) xs → n < length xs
    → slice_get ys n ≡ Some y → slice_get xs n ≡ Some (kept y)
stood_there f xs n ys y so_far within there =
    let was = get_within xs n within in
    was.1 ∙ sym (present f xs n ys was.0 so_far was.1) ∙ get_kept ys n ∙ ap (option_map kept) there

module _ (place : ℕ) (before : Flow) (xs : List Kept) (p n : ℕ) (ys : List KeptFlow) (now k : Kept)
    (so_far : all_kept ys ≡ changed_from (revised_with place before now.flow) (suc n) xs) (here : slice_get xs p ≡ Some now) (there : slice_get xs n ≡ Some k) where
  same_flow : (m : Kept) → slice_get (all_kept ys) p ≡ Some m → m.flow ≡ now.flow
  same_flow m is =
      let flows = flow_there (revised_with place before now.flow) xs (suc n) p (flow_stays place before now.flow) in
      let mine : Some m.flow ≡ Some now.flow = sym (ap (option_map (λ (x : Kept). x.flow)) is) ∙ ap (λ zs. option_map (λ (x : Kept). x.flow) (slice_get zs p)) so_far ∙ flows ∙ ap (option_map (λ (x : Kept). x.flow)) here in
      cc

  -- what the test of it told
  told : (b : Bool) → IfSome (slice_get (all_kept ys) p) (λ m. IfSome (slice_get (all_kept ys) n) (λ o. b ≡ is_concerned before m.flow o.flow)) → b ≡ is_concerned before now.flow k.flow
  told b test = by_place (slice_get (all_kept ys) p) refl test where
    by_place : (o : Option Kept) → slice_get (all_kept ys) p ≡ o → IfSome o (λ m. IfSome (slice_get (all_kept ys) n) (λ o. b ≡ is_concerned before m.flow o.flow)) → b ≡ is_concerned before now.flow k.flow
    by_place None none h = let flows = flow_there (revised_with place before now.flow) xs (suc n) p (flow_stays place before now.flow) in
        let no : None ≡ Some now.flow = sym (ap (option_map (λ (x : Kept). x.flow)) none) ∙ ap (λ zs. option_map (λ (x : Kept). x.flow) (slice_get zs p)) so_far ∙ flows ∙ ap (option_map (λ (x : Kept). x.flow)) here in
        absurd cc
    by_place (Some m) is h =
        let test : b ≡ is_concerned before m.flow k.flow = subst (λ o. IfSome o (λ o. b ≡ is_concerned before m.flow o.flow)) (present (revised_with place before now.flow) xs n ys k so_far there) h in
        test ∙ ap (λ g. is_concerned before g k.flow) (same_flow m is)

  pub not_concerned : (b : Bool) → b ≡ false → IfSome (slice_get (all_kept ys) p) (λ m. IfSome (slice_get (all_kept ys) n) (λ o. b ≡ is_concerned before m.flow o.flow))
      → all_kept ys ≡ changed_from (revised_with place before now.flow) n xs
  not_concerned b off test =
      one_left (revised_with place before now.flow) xs n ys k so_far there
      (ap (λ c. if c then record k { revision = place } else k) (sym (told b test) ∙ off))

  pub concerned : (b : Bool) (zs : List KeptFlow) → b ≡ true → IfSome (slice_get (all_kept ys) p) (λ m. IfSome (slice_get (all_kept ys) n) (λ o. b ≡ is_concerned before m.flow o.flow))
      → IfSome (slice_get ys n) (λ y. zs ≡ slice_set ys n (record y { revision = place })) → all_kept zs ≡ changed_from (revised_with place before now.flow) n xs
  concerned b zs on test set =
      one_revised (revised_with place before now.flow) xs n ys k so_far there place zs
      (ap (λ c. if c then record k { revision = place } else k) (sym (told b test) ∙ on)) set

-- the same where the place of the changed flow isn't known to be there
pub looked_at : (place : ℕ) (before : Flow) (xs : List Kept) (p n m : ℕ) (ys zs : List KeptFlow) (b : Bool) → m ≡ suc n → n < length xs
    → IfSome (slice_get xs p) (λ now. all_kept ys ≡ changed_from (revised_with place before now.flow) m xs)
    → IfSome (slice_get (all_kept ys) p) (λ q. IfSome (slice_get (all_kept ys) n) (λ o. b ≡ is_concerned before q.flow o.flow))
    → ((now : Kept) (k : Kept) → all_kept ys ≡ changed_from (revised_with place before now.flow) (suc n) xs → slice_get xs p ≡ Some now → slice_get xs n ≡ Some k
    → all_kept zs ≡ changed_from (revised_with place before now.flow) n xs)
    → IfSome (slice_get xs p) (λ now. all_kept zs ≡ changed_from (revised_with place before now.flow) n xs)
looked_at place before xs p n m ys zs b one within so_far test step = by_place (slice_get xs p) refl so_far where
  by_place : (o : Option Kept) → slice_get xs p ≡ o → IfSome o (λ now. all_kept ys ≡ changed_from (revised_with place before now.flow) m xs)
      → IfSome o (λ now. all_kept zs ≡ changed_from (revised_with place before now.flow) n xs)
  by_place None none h = tt
  by_place (Some now) is h =
      let there = get_within xs n within in
      step now there.0 (h ∙ ap (λ j. changed_from (revised_with place before now.flow) j xs) one) is there.1

pub set_length : {T : Type 0} (xs : List T) (n : ℕ) (x : T) → length (slice_set xs n x) ≡ length xs
set_length [] n x = refl
set_length (y ∷ ys) zero x = refl
set_length (y ∷ ys) (suc n) x = ap suc (set_length ys n x)

-- an item that is changed leaves as many
pub set_counted : {T : Type 0} (xs ys : List T) (n : ℕ) (f : T → T) → n < length xs → IfSome (slice_get xs n) (λ x. ys ≡ slice_set xs n (f x)) → length ys ≡ length xs
set_counted xs ys n f within set =
    let there = get_within xs n within in
    let is : ys ≡ slice_set xs n (f there.0) = subst (λ o. IfSome o (λ x. ys ≡ slice_set xs n (f x))) there.1 set in
    ap length is ∙ set_length xs n (f there.0)

pub get_set : {T : Type 0} (xs : List T) (n : ℕ) (x : T) → n < length xs → slice_get (slice_set xs n x) n ≡ Some x
get_set [] n x within = absurd (omega (arith, within))
get_set (y ∷ ys) zero x within = refl
get_set (y ∷ ys) (suc n) x within = get_set ys n x (omega (arith, within))

-- ---- flows and index fit as before where revisions alone change

module _ (f : Kept → Kept) (same : (k : Kept) → (f k).flow ≡ k.flow) where
  rises_same : (low high : ℕ) (ks : List Kept) → RisesTo flow_number low high ks → RisesTo flow_number low high (map f ks)
  rises_same low high [] rising = rising
  rises_same low high (k ∷ ks) rising =
      let n : flow_number (f k) ≡ flow_number k = ap (λ (g : Flow). g.number.0) (same k) in
      (subst (λ m. low ≤ m) (sym n) rising.0, subst (λ m. RisesTo flow_number (m + 1) high (map f ks)) (sym n) (rises_same (flow_number k + 1) high ks rising.1))

  -- what holds of each flow, whatever its revision
  all_same : (P : Flow → Type 0) (ks : List Kept) → All (λ k. P k.flow) ks → All (λ k. P k.flow) (map f ks)
  all_same P [] all = All-nil (λ (k : Kept). P k.flow)
  all_same P (k ∷ ks) all =
      All-cons (λ (k : Kept). P k.flow) (f k) (map f ks) (subst P (sym (same k)) (All-head (λ (k : Kept). P k.flow) k ks all))
      (all_same P ks (All-tail (λ (k : Kept). P k.flow) k ks all))

  found_same : (task : TaskNo) (ks : List Kept) → option_map flow_number (flow_of_task task (map f ks)) ≡ option_map flow_number (flow_of_task task ks)
  found_same task [] = refl
  found_same task (k ∷ ks) =
      let n : flow_number (f k) ≡ flow_number k = ap (λ (g : Flow). g.number.0) (same k) in
      let has : has_attempt task (f k) ≡ has_attempt task k = ap (λ (g : Flow). is_some (attempt_numbered task g.attempts)) (same k) in
      ap (λ b. option_map flow_number (cond b (Some (f k)) (flow_of_task task (map f ks)))) has ∙ by_test (has_attempt task k) n (found_same task ks)
    where
      by_test : (b : Bool) → flow_number (f k) ≡ flow_number k
          → option_map flow_number (flow_of_task task (map f ks)) ≡ option_map flow_number (flow_of_task task ks)
          → option_map flow_number (cond b (Some (f k)) (flow_of_task task (map f ks))) ≡ option_map flow_number (cond b (Some k) (flow_of_task task ks))
      by_test true n rest = ap Some n
      by_test false n rest = rest

  pub tied_same : (ks : List Kept) (index : List Placed) (next_flow next_task : ℕ) → AreTied ks index next_flow next_task → AreTied (map f ks) index next_flow next_task
  tied_same ks index next_flow next_task tied = record {
    flows_rise = rises_same 1 next_flow ks tied.flows_rise;
    attempts_rise = all_same (λ g. RisingTo 1 next_task g.attempts) ks tied.attempts_rise;
    rows_rise = tied.rows_rise;
    tells = λ t. tied.tells t ∙ sym (found_same t ks);
    placed = all_same (λ g. (t : TaskNo) → is_some (attempt_numbered t g.attempts) ≡ true → placed_in t.0 index ≡ Some g.number.0) ks tied.placed;
    flow_numbers = tied.flow_numbers;
    task_numbers = tied.task_numbers;
  }

pub tied_changed : (place : ℕ) (old : Kept) (now : Flow) (xs : List Kept) (index : List Placed) (next_flow next_task : ℕ) → flow_numbered now.number xs ≡ Some old
    → AreTied (with_kept (new_kept place now) xs) index next_flow next_task → AreTied (flow_changed place now xs) index next_flow next_task
tied_changed place old now xs index next_flow next_task found tied =
    subst (λ ks. AreTied ks index next_flow next_task)
    (revised_put place old.flow now xs ∙ sym (ap (λ o. option_map_or (λ (k : Kept). map (revised place k.flow now) xs) o xs) found))
    (tied_same (revised_with place old.flow now) (flow_stays place old.flow now) (with_kept (new_kept place now) xs) index next_flow next_task tied)
