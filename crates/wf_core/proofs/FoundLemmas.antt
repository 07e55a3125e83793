-- What a poll finds: the first of all that wait, and that it is one that can be handed out.
use Rattle.std.proofs.Common.{◌≡◌, ℕ, ◌+◌, ◌<◌, ◌≤◌, Bool, true, false, if◌then◌else◌, ◌&&◌, nat_le, List, [], ◌∷◌, ◌++◌, map, filter, Option, None, Some, refl, sym, ap, ◌∙◌, subst, arith}
use Rattle.std.proofs.lemmas.Bool.Decides.{nat_tests}
use Rattle.std.specs.List.{All}
use Rattle.std.proofs.lemmas.List.Elements.{All-head, All-tail}
use Rattle.std.specs.Option.{option_map_or}
use Rattle.wf_machine.specs.State.{Attempt, Flow, Kept, RisingTo, State, attempt_numbered, is_numbered}
use Rattle.wf_machine.specs.Flows.{flow_numbered, is_flow}
use Rattle.wf_machine.specs.Marks.{node_at}
use Rattle.wf_machine.specs.Queues.{Waiting, all_waiting, comes_before, earlier, first_waiting, is_ready, next_waiting, runs_task, waiting_in}
use Rattle.wf_machine.specs.Records.{Each, is_scheduled}
use Rattle.wf_kept.specs.Flows.{AreAttemptsBelow, flow_number}
use Rattle.wf_kept.specs.Rising.{RisesTo}
use Rattle.std.specs.List.{find}
use Rattle.wf_core.specs.Found.{with_waiting}
use Rattle.wf_core.specs.Grown.{IsChanged, IsCopied}
use Rattle.wf_kept.proofs.SearchLemmas.{found_itself}

-- ---- the first of two lists

earlier-none : (o : Option Waiting) → earlier o None ≡ o
earlier-none None = refl
earlier-none (Some w) = refl

pub earlier_assoc : (a b c : Option Waiting) → earlier (earlier a b) c ≡ earlier a (earlier b c)
earlier_assoc None b c = refl
earlier_assoc (Some x) None c = refl
earlier_assoc (Some x) (Some y) None = earlier-none (if comes_before y x then Some y else Some x)
earlier_assoc (Some x) (Some y) (Some z) = by_tests (comes_before y x) (comes_before z y) (comes_before z x) refl refl refl where
  by_tests : (b c d : Bool) → comes_before y x ≡ b → comes_before z y ≡ c → comes_before z x ≡ d
      → earlier (if b then Some y else Some x) (Some z) ≡ earlier (Some x) (if c then Some z else Some y)
  by_tests true true d p q r = let s : comes_before z x ≡ true = grind (arith, nat_tests) in rw (q, s) refl
  by_tests true false d p q r = rw (q, p) refl
  by_tests false true d p q r = rw r refl
  by_tests false false d p q r = let s : comes_before z x ≡ false = grind (arith, nat_tests) in rw (s, p) refl

pub first_append : (xs ys : List Waiting) → first_waiting (xs ++ ys) ≡ earlier (first_waiting xs) (first_waiting ys)
first_append [] ys = refl
first_append (x ∷ xs) ys = ap (earlier (Some x)) (first_append xs ys) ∙ sym (earlier_assoc (Some x) (first_waiting xs) (first_waiting ys))

-- ---- what it is

each_append : {T : Type 0} (P : T → Type 0) (xs ys : List T) → Each P xs → Each P ys → Each P (xs ++ ys)
each_append P [] ys h k = k
each_append P (x ∷ xs) ys h k = (h.0, each_append P xs ys h.1 k)

each_first : (P : Waiting → Type 0) (ws : List Waiting) (w : Waiting) → Each P ws → first_waiting ws ≡ Some w → P w
each_first P [] w h is = cc
each_first P (x ∷ xs) w h is = by_rest (first_waiting xs) refl is (λ v k. each_first P xs v h.1 k) where
  by_rest : (o : Option Waiting) → first_waiting xs ≡ o → earlier (Some x) o ≡ Some w → ((v : Waiting) → first_waiting xs ≡ Some v → P v) → P w
  by_rest None e k on = let same : x ≡ w = cc in subst P same h.0
  by_rest (Some v) e k on = by_test (comes_before v x) k where
    by_test : (b : Bool) → (if b then Some v else Some x) ≡ Some w → P w
    by_test true k = let same : v ≡ w = cc in subst P same (on v e)
    by_test false k = let same : x ≡ w = cc in subst P same h.0

-- each attempt is the one of its number
each_numbered : (low high : ℕ) (xs : List Attempt) → RisingTo low high xs → Each (λ a. (low ≤ a.number.0) × (attempt_numbered a.number xs ≡ Some a)) xs
each_numbered low high [] h = tt
each_numbered low high (x ∷ xs) h =
    let mine : is_numbered x.number x ≡ true = grind (arith, nat_tests) in
    ((h.0, rw mine refl), later (x.number.0 + 1) xs xs (omega arith) (each_numbered (x.number.0 + 1) high xs h.1)) where
      later : (low' : ℕ) (ys zs : List Attempt) → x.number.0 < low' → Each (λ (a : Attempt). (low' ≤ a.number.0) × (attempt_numbered a.number zs ≡ Some a)) ys
          → Each (λ (a : Attempt). (low ≤ a.number.0) × (attempt_numbered a.number (x ∷ zs) ≡ Some a)) ys
      later low' [] zs lt k = tt
      later low' (y ∷ ys) zs lt k =
          let first = h.0 in let above = k.0.0 in
          let other : is_numbered y.number x ≡ false = grind (arith, nat_tests) in
          ((omega (arith, first, above, lt), rw other k.0.1), later low' ys zs lt k.1)

-- each flow is the one of its number
each_flow : (low high : ℕ) (ks : List Kept) → RisesTo flow_number low high ks → Each (λ k. (low ≤ flow_number k) × (flow_numbered k.flow.number ks ≡ Some k)) ks
each_flow low high [] h = tt
each_flow low high (x ∷ xs) h =
    let mine : is_flow x.flow.number x ≡ true = grind (arith, nat_tests) in
    ((h.0, rw mine refl), later (flow_number x + 1) xs xs (omega arith) (each_flow (flow_number x + 1) high xs h.1)) where
      later : (low' : ℕ) (ys zs : List Kept) → flow_number x < low' → Each (λ (k : Kept). (low' ≤ flow_number k) × (flow_numbered k.flow.number zs ≡ Some k)) ys
          → Each (λ (k : Kept). (low ≤ flow_number k) × (flow_numbered k.flow.number (x ∷ zs) ≡ Some k)) ys
      later low' [] zs lt k = tt
      later low' (y ∷ ys) zs lt k =
          let first = h.0 in let above = k.0.0 in
          let other : is_flow y.flow.number x ≡ false = grind (arith, nat_tests) in
          ((omega (arith, first, above, lt), rw other k.0.1), later low' ys zs lt k.1)

ready_scheduled : (name : List ℕ) (e : ℕ) (f : Flow) (a : Attempt) → is_ready name e f.def a ≡ true → is_scheduled a.status ≡ true
ready_scheduled name e f a h = by_status (is_scheduled a.status) h where
  by_status : (b : Bool) → (b && nat_le a.ready e && option_map_or (runs_task name) (node_at f.def.nodes a.node) false) ≡ true → b ≡ true
  by_status true h = refl
  by_status false h = cc

-- what a waiting attempt is, with the attempt that its offer names
pub record IsWaiting (s : State) (w : Waiting) : Type 0 where
  pub old : Kept
  pub found : flow_numbered w.flow.number s.flows ≡ Some old
  pub same : old.flow ≡ w.flow
  pub rising : RisingTo 1 s.next_task w.flow.attempts
  pub there : attempt_numbered w.attempt.number w.flow.attempts ≡ Some w.attempt
  pub scheduled : is_scheduled w.attempt.status ≡ true

waiting_each : (name : List ℕ) (e : ℕ) (s : State) (k : Kept) (xs : List Attempt) → flow_numbered k.flow.number s.flows ≡ Some k → RisingTo 1 s.next_task k.flow.attempts
    → Each (λ (a : Attempt). (1 ≤ a.number.0) × (attempt_numbered a.number k.flow.attempts ≡ Some a)) xs
    → Each (IsWaiting s) (map (λ a. record { flow = k.flow; attempt = a }) (filter (is_ready name e k.flow.def) xs))
waiting_each name e s k [] found rising h = tt
waiting_each name e s k (a ∷ xs) found rising h = by_test (is_ready name e k.flow.def a) refl (waiting_each name e s k xs found rising h.1) where
  by_test : (b : Bool) → is_ready name e k.flow.def a ≡ b → Each (IsWaiting s) (map (λ (x : Attempt). record { flow = k.flow; attempt = x }) (filter (is_ready name e k.flow.def) xs))
      → Each (IsWaiting s) (map (λ (x : Attempt). record { flow = k.flow; attempt = x }) (if b then a ∷ filter (is_ready name e k.flow.def) xs else filter (is_ready name e k.flow.def) xs))
  by_test true is more =
      (record { old = k; found = found; same = refl; rising = rising; there = h.0.1; scheduled = ready_scheduled name e k.flow a is }, more)
  by_test false is more = more

waiting_all : (name : List ℕ) (e : ℕ) (s : State) (ks : List Kept) → Each (λ (k : Kept). (1 ≤ flow_number k) × (flow_numbered k.flow.number s.flows ≡ Some k)) ks
    → Each (λ (k : Kept). RisingTo 1 s.next_task k.flow.attempts) ks → Each (IsWaiting s) (all_waiting name e ks)
waiting_all name e s [] h r = tt
waiting_all name e s (k ∷ ks) h r =
    each_append (IsWaiting s) (waiting_in name e k.flow) (all_waiting name e ks)
    (waiting_each name e s k k.flow.attempts h.0.1 r.0 (each_numbered 1 s.next_task k.flow.attempts r.0)) (waiting_all name e s ks h.1 r.1)

each_all : {T : Type 0} (P : T → Type 0) (xs : List T) → All P xs → Each P xs
each_all P [] h = tt
each_all P (x ∷ xs) h = (All-head P x xs h, each_all P xs (All-tail P x xs h))

-- what a poll finds can be handed out
pub found_waits : (name : List ℕ) (e : ℕ) (s : State) (w : Waiting) → RisesTo flow_number 1 s.next_flow s.flows
    → All (AreAttemptsBelow s.next_task) s.flows → next_waiting name e s.flows ≡ Some w → IsWaiting s w
found_waits name e s w rises rising is =
    each_first (IsWaiting s) (all_waiting name e s.flows) w
    (waiting_all name e s s.flows (each_flow 1 s.next_flow s.flows rises) (each_all (AreAttemptsBelow s.next_task) s.flows rising)) is

-- ---- the loops

abbrev pub waiting_among : List ℕ → ℕ → Flow → List Attempt → List Waiting
waiting_among name e f xs = map (λ a. record { flow = f; attempt = a }) (filter (is_ready name e f.def) xs)

-- one more attempt was looked at
pub waits_once_more : (name : List ℕ) (e : ℕ) (f : Flow) (best whole : Option Waiting) (a : Attempt) (rest : List Attempt)
    → earlier best (first_waiting (waiting_among name e f (a ∷ rest))) ≡ whole
    → earlier (with_waiting name e f a best) (first_waiting (waiting_among name e f rest)) ≡ whole
waits_once_more name e f best whole a rest so = by_test (is_ready name e f.def a) so where
  by_test : (b : Bool)
      → earlier best (first_waiting (map (λ x. record { flow = f; attempt = x }) (if b then a ∷ filter (is_ready name e f.def) rest else filter (is_ready name e f.def) rest))) ≡ whole
      → earlier (if b then earlier best (Some (record { flow = f; attempt = a })) else best) (first_waiting (waiting_among name e f rest)) ≡ whole
  by_test true so = earlier_assoc best (Some (record { flow = f; attempt = a })) (first_waiting (waiting_among name e f rest)) ∙ so
  by_test false so = so

-- one more flow was looked at
pub flows_more : (name : List ℕ) (e : ℕ) (best whole : Option Waiting) (k : Kept) (rest : List Kept)
    → earlier best (first_waiting (all_waiting name e (k ∷ rest))) ≡ whole
    → earlier (earlier best (first_waiting (waiting_in name e k.flow))) (first_waiting (all_waiting name e rest)) ≡ whole
flows_more name e best whole k rest so =
    earlier_assoc best (first_waiting (waiting_in name e k.flow)) (first_waiting (all_waiting name e rest))
    ∙ ap (earlier best) (sym (first_append (waiting_in name e k.flow) (all_waiting name e rest))) ∙ so

-- ---- kept flows that a search finds

all_found : (P : Kept → Type 0) (p : Kept → Bool) (ks : List Kept) (k : Kept) → All P ks → find p ks ≡ Some k → P k
all_found P p [] k all found = cc
all_found P p (x ∷ ks) k all found = by_test (p x) found (all_found P p ks k (All-tail P x ks all)) where
  by_test : (b : Bool) → (if b then Some x else find p ks) ≡ Some k → (find p ks ≡ Some k → P k) → P k
  by_test true found on = let same : x ≡ k = cc in subst P same (All-head P x ks all)
  by_test false found on = on found

pub found_passes : (p : Kept → Bool) (ks : List Kept) (k : Kept) → find p ks ≡ Some k → p k ≡ true
found_passes p [] k found = cc
found_passes p (x ∷ ks) k found = by_test (p x) refl found (found_passes p ks k) where
  by_test : (b : Bool) → p x ≡ b → (if b then Some x else find p ks) ≡ Some k → (find p ks ≡ Some k → p k ≡ true) → p k ≡ true
  by_test true is found on = let same : x ≡ k = cc in ap p (sym same) ∙ is
  by_test false is found on = on found

-- a kept flow is one that may be changed
-- the flow that a test found, and an equal copy of it
pub kept_copied : (s : State) (p : Kept → Bool) (k : Kept) (f : Flow) → RisesTo flow_number 1 s.next_flow s.flows → All (AreAttemptsBelow s.next_task) s.flows
    → find p s.flows ≡ Some k → f ≡ k.flow → IsCopied f s
kept_copied s p k f rises below found same =
    subst (λ (g : Flow). IsCopied g s) (sym same)
    (record {
      old = k;
      found = found_itself flow_number 1 s.next_flow p s.flows k rises found;
      same = refl;
      rising = all_found (AreAttemptsBelow s.next_task) p s.flows k below found;
    })

pub kept_changed : (s : State) (p : Kept → Bool) (k : Kept) (f : Flow) → RisesTo flow_number 1 s.next_flow s.flows → All (AreAttemptsBelow s.next_task) s.flows
    → find p s.flows ≡ Some k → f ≡ k.flow → IsChanged f s
kept_changed s p k f rises below found same =
    subst (λ (g : Flow). IsChanged g s) (sym same)
    (record {
      old = k;
      found = found_itself flow_number 1 s.next_flow p s.flows k rises found;
      numbers = refl;
      rising = all_found (AreAttemptsBelow s.next_task) p s.flows k below found;
    })
