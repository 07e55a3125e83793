-- Attempts that grow: by acts, by results and by hand-outs.
use Rattle.std.proofs.Common.{◌≡◌, ℕ, ◌+◌, ◌≤◌, Bool, true, false, if◌then◌else◌, List, [], ◌∷◌, ◌++◌, map, length, ◌^◌, Some, Result, Ok, Err, IfOk, IsSomeAnd, refl, sym, ap, ◌∙◌, subst, arith}
use Rattle.std.proofs.lemmas.Bool.Decides.{nat_tests}
use Rattle.std.proofs.lemmas.List.{append_assoc, append-nil, length-append, length-map}
use Rattle.wf_names.specs.declared.ids.TaskNo.{TaskNo}
use Rattle.wf_names.specs.TaskStatus.{task_is_open}
use Rattle.wf_machine.specs.State.{Attempt, Flow, RisingTo, attempt_numbered, is_numbered, with_attempt, Kept, State}
use Rattle.wf_rules.specs.Acts.{Turn}
use Rattle.wf_rules.specs.Plans.{turn_at}
use Rattle.wf_turn.specs.Growing.{AreMoreAttempts, AreNewFlows, IsLaterTurn}
use Rattle.wf_rules.proofs.MakeLemmas.{rising_length}
use Rattle.wf_kept.specs.Flows.{AreStarted, FlowTable, IsGrown, attempt_number}
use Rattle.wf_names.specs.declared.refusals.Refusal.{Refusal}
use Rattle.wf_machine.specs.declared.calling.TaskResult.{TaskResult}
use Rattle.wf_machine.specs.Flows.{flow_numbered}
use Rattle.wf_machine.specs.Records.{is_kind_at, is_simple}
use Rattle.wf_machine.specs.Tasks.{result_applied, takes_update}
use Rattle.wf_flow.specs.Changes.{update_answer}
use Rattle.wf_core.specs.Changes.{IsFlowAnew, IsNewFlow, IsOldFlow}
use Rattle.wf_flow.specs.Room.{FlowRoom}
use Rattle.wf_names.specs.declared.ids.FlowNo.{FlowNo}
use Rattle.wf_core.specs.declared.change.Decided.{Decided}
use Rattle.wf_core.specs.Grown.{HasGrown, IsChanged, IsDecided, IsTold}
use Rattle.wf_core.specs.Store.{Store, table_of}
use Rattle.wf_core.proofs.DecidedLemmas.{told_next}

rising-numbers : (low high : ℕ) (xs ys : List Attempt) → map attempt_number xs ≡ map attempt_number ys → RisingTo low high xs → RisingTo low high ys
rising-numbers low high [] [] same h = h
rising-numbers low high [] (y ∷ ys) same h = cc
rising-numbers low high (x ∷ xs) [] same h = cc
rising-numbers low high (x ∷ xs) (y ∷ ys) same h =
    let first : attempt_number x ≡ attempt_number y = cc in
    let more : map attempt_number xs ≡ map attempt_number ys = cc in
    (subst (λ n. low ≤ n) first h.0, subst (λ n. RisingTo (n + 1) high ys) first (rising-numbers (attempt_number x + 1) high xs ys more h.1))

-- nothing has grown yet
pub grown_none : (xs : List Attempt) (n : ℕ) → IsGrown xs xs n n
grown_none xs n = record { first = xs; more = []; is = sym (append-nil xs); numbers = refl; rising = omega arith }

-- ---- what a decision left

pub later_grown : (old new : List Attempt) (low high : ℕ) → AreMoreAttempts old new low high → IsGrown old new low high
later_grown old new low high h = record { first = h.first; more = h.more; is = h.is; numbers = h.numbers; rising = h.rising }

new_started : (number : ℕ) (fs : List Flow) → AreNewFlows number fs → AreStarted number fs
new_started number [] h = tt
new_started number (f ∷ fs) h = (h.0, h.1, new_started (number + 1) fs h.2)

-- the flows that it started, where there was none before
told_all : (start turn : Turn) (d : Decided) → start.children ≡ [] → (later : IsLaterTurn start turn) → IsTold turn d → map (λ (f : FlowRoom). f.flow) d.started.items ≡ later.children.more
told_all start turn d none later told = told.started ∙ later.children.is ∙ ap (λ fs. fs ++ later.children.more) none

told_started_from : (number : ℕ) (start turn : Turn) (d : Decided) → start.children ≡ [] → start.next_flow ≡ number → IsLaterTurn start turn → IsTold turn d
    → AreStarted number (map (λ (f : FlowRoom). f.flow) d.started.items)
told_started_from number start turn d none next later told =
    subst (λ fs. AreStarted number fs) (sym (told_all start turn d none later told))
    (subst (λ n. AreStarted n later.children.more) next (new_started start.next_flow later.children.more later.children.fresh))

-- ---- one attempt is changed

numbers-with : (b : Attempt) (xs : List Attempt) → map attempt_number (with_attempt b xs) ≡ map attempt_number xs
numbers-with b [] = refl
numbers-with b (x ∷ xs) = rw (numbers-with b xs) (ap (λ n. n ∷ map attempt_number xs) (by_test (is_numbered b.number x) refl)) where
  by_test : (t : Bool) → is_numbered b.number x ≡ t → attempt_number (if t then b else x) ≡ attempt_number x
  by_test true h = grind (arith, nat_tests)
  by_test false h = refl

pub rising_with_to : (low high : ℕ) (b : Attempt) (xs : List Attempt) → RisingTo low high xs → RisingTo low high (with_attempt b xs)
rising_with_to low high b xs h = rising-numbers low high xs (with_attempt b xs) (sym (numbers-with b xs)) h

-- what grows from a list with one attempt changed has grown from the list
pub grown_from_with : (b : Attempt) (xs ys : List Attempt) (low high : ℕ) → IsGrown (with_attempt b xs) ys low high → IsGrown xs ys low high
grown_from_with b xs ys low high h = record { first = h.first; more = h.more; is = h.is; numbers = h.numbers ∙ numbers-with b xs; rising = h.rising }

pub grown_with : (b : Attempt) (xs : List Attempt) (n : ℕ) → IsGrown xs (with_attempt b xs) n n
grown_with b xs n = grown_from_with b xs (with_attempt b xs) n n (grown_none (with_attempt b xs) n)

-- the changed attempt is the one of its number
pub numbered_with : (task : TaskNo) (a b : Attempt) (xs : List Attempt) → attempt_numbered task xs ≡ Some a → b.number.0 ≡ task.0 → attempt_numbered task (with_attempt b xs) ≡ Some b
numbered_with task a b [] there same = cc
numbered_with task a b (x ∷ xs) there same = by_test (is_numbered task x) refl there (numbered_with task a b xs) where
  by_test : (t : Bool) → is_numbered task x ≡ t → (if t then Some x else attempt_numbered task xs) ≡ Some a
      → (attempt_numbered task xs ≡ Some a → b.number.0 ≡ task.0 → attempt_numbered task (with_attempt b xs) ≡ Some b)
      → attempt_numbered task (with_attempt b (x ∷ xs)) ≡ Some b
  by_test true e h on =
      let mine : is_numbered b.number x ≡ true = grind (arith, nat_tests) in
      let now : is_numbered task b ≡ true = grind (arith, nat_tests) in
      rw (mine, now) refl
  by_test false e h on =
      let other : is_numbered b.number x ≡ false = grind (arith, nat_tests) in
      rw (other, e) (on h same)

-- ---- lengths

length-numbers : (xs ys : List Attempt) → map attempt_number xs ≡ map attempt_number ys → length xs ≡ length ys
length-numbers xs ys same = sym (length-map xs attempt_number) ∙ ap length same ∙ length-map ys attempt_number

-- what has grown has no more new attempts than numbers were taken
pub grown_length : (old new : List Attempt) (low high : ℕ) → IsGrown old new low high → length new + low ≤ length old + high
grown_length old new low high h =
    let all = ap length h.is in
    let sum = length-append h.first h.more in
    let known = length-numbers h.first old h.numbers in
    let more = rising_length low high h.more h.rising in
    omega (arith, all, sum, known, more)

-- ---- what is ready to be kept

-- the attempts of a new flow have the numbers that were taken
grown_new : (xs : List Attempt) (low high : ℕ) → IsGrown [] xs low high → RisingTo low high xs
grown_new xs low high h = by_first h.first h.numbers h.is where
  by_first : (first : List Attempt) → map attempt_number first ≡ [] → xs ≡ first ++ h.more → RisingTo low high xs
  by_first [] none is = subst (RisingTo low high) (sym is) h.rising
  by_first (x ∷ first) none is = absurd cc

pub new_ready : (t : FlowTable) (start turn : Turn) (d : Decided) → start.flow.attempts ≡ [] → start.children ≡ [] → start.flow.number.0 ≡ t.next_flow → start.next_flow ≡ t.next_flow + 1
    → start.next_task ≡ t.next_task → IsLaterTurn start turn → IsTold turn d → turn.next_task ≤ 2 ^ 56 → turn.next_flow ≤ 2 ^ 56
    → 1 + length d.started.items ≤ t.spare_flows → d.next_task ≤ t.spare_tasks + t.next_task → IsNewFlow t d
new_ready t start turn d empty none number next task later told tasks flows room_flows room_tasks =
    let attempts : IsGrown [] d.flow.flow.attempts t.next_task d.next_task =
    subst (λ (f : Flow). IsGrown [] f.attempts t.next_task d.next_task) (sym told.flow)
    (subst (λ n. IsGrown [] turn.flow.attempts t.next_task n) (sym told.next_task)
    (subst (λ n. IsGrown [] turn.flow.attempts n turn.next_task) task
    (subst (λ xs. IsGrown xs turn.flow.attempts start.next_task turn.next_task) empty (later_grown start.flow.attempts turn.flow.attempts start.next_task turn.next_task later.attempts)))) in
    let more = grown_length [] d.flow.flow.attempts t.next_task d.next_task attempts in
    let count = told_next start turn d none later told in
    let last = told.next_task in
    record {
      number = ap (λ (f : Flow). f.number.0) told.flow ∙ ap (λ (n : FlowNo). n.0) later.number ∙ number;
      attempts = grown_new d.flow.flow.attempts t.next_task d.next_task attempts;
      limit = omega (arith, tasks, last);
      started = told_started_from (t.next_flow + 1) start turn d none next later told;
      numbers_left = omega (arith, count, flows, next);
      room_flows = room_flows;
      room_tasks = omega (arith, room_tasks, more);
    }

-- a kept flow has grown, and has started flows
pub grown_ready : (t : FlowTable) (old : Kept) (d : Decided) → flow_numbered d.flow.flow.number t.kept ≡ Some old → IsGrown old.flow.attempts d.flow.flow.attempts t.next_task d.next_task
    → d.next_task ≤ 2 ^ 56 → AreStarted t.next_flow (map (λ (f : FlowRoom). f.flow) d.started.items) → t.next_flow + length d.started.items ≤ 2 ^ 56
    → length d.started.items ≤ t.spare_flows → d.next_task ≤ t.spare_tasks + t.next_task → IsOldFlow t d
grown_ready t old d found grown limit started left room_flows room_tasks =
    let more = grown_length old.flow.attempts d.flow.flow.attempts t.next_task d.next_task grown in
    record {
      grown = record { old = old; found = found; grown = grown };
      limit = limit;
      started = started;
      numbers_left = left;
      room_flows = room_flows;
      room_tasks = rw found (omega (arith, room_tasks, more));
    }

-- what has the same numbers has grown by nothing
pub grown_same : (old new : List Attempt) (n : ℕ) → map attempt_number new ≡ map attempt_number old → IsGrown old new n n
grown_same old new n numbers = record { first = new; more = []; is = sym (append-nil new); numbers = numbers; rising = omega arith }

pub changed_grown : (f : Flow) (s : State) → IsChanged f s → HasGrown f s.next_task s
changed_grown f s h = record { old = h.old; found = h.found; grown = grown_same h.old.flow.attempts f.attempts s.next_task h.numbers; rising = h.rising }

-- a list whose numbers are those of two lists one after another is two such lists
record IsSplit (xs ys zs : List Attempt) : Type 0 where
  front : List Attempt
  back : List Attempt
  is : xs ≡ front ++ back
  fronts : map attempt_number front ≡ map attempt_number ys
  backs : map attempt_number back ≡ map attempt_number zs

split : (xs ys zs : List Attempt) → map attempt_number xs ≡ map attempt_number (ys ++ zs) → IsSplit xs ys zs
split xs [] zs same = record { front = []; back = xs; is = refl; fronts = refl; backs = same }
split [] (y ∷ ys) zs same = absurd cc
split (x ∷ xs) (y ∷ ys) zs same =
    let one : attempt_number x ≡ attempt_number y = cc in
    let more : map attempt_number xs ≡ map attempt_number (ys ++ zs) = cc in
    let rest = split xs ys zs more in
    record {
      front = x ∷ rest.front;
      back = rest.back;
      is = ap (λ l. x ∷ l) rest.is;
      fronts = ap (λ n. n ∷ map attempt_number rest.front) one ∙ ap (λ ns. attempt_number y ∷ ns) rest.fronts;
      backs = rest.backs;
    }

rising_lower : (low mid high : ℕ) (xs : List Attempt) → low ≤ mid → RisingTo mid high xs → RisingTo low high xs
rising_lower low mid high [] order h = omega (arith, order, h)
rising_lower low mid high (x ∷ xs) order h = (let first = h.0 in omega (arith, order, first), h.1)

rising_joined : (low mid high : ℕ) (xs ys : List Attempt) → RisingTo low mid xs → RisingTo mid high ys → RisingTo low high (xs ++ ys)
rising_joined low mid high [] ys below above = rising_lower low mid high ys below above
rising_joined low mid high (x ∷ xs) ys below above = (below.0, rising_joined (x.number.0 + 1) mid high xs ys below.1 above)

-- what grows further has grown from the first
pub grown_further : (xs ys zs : List Attempt) (low mid high : ℕ) → IsGrown xs ys low mid → AreMoreAttempts ys zs mid high → IsGrown xs zs low high
grown_further xs ys zs low mid high g h =
    let parts = split h.first g.first g.more (h.numbers ∙ ap (map attempt_number) g.is) in
    record {
      first = parts.front;
      more = parts.back ++ h.more;
      is = h.is ∙ ap (λ l. l ++ h.more) parts.is ∙ append_assoc parts.front parts.back h.more;
      numbers = parts.fronts ∙ g.numbers;
      rising = rising_joined low mid high parts.back h.more (rising-numbers low mid g.more parts.back (sym parts.backs) g.rising) h.rising;
    }

module _ (flow : Flow) (next_task moment : ℕ) (old new : Store) (d : Decided) (h : IsDecided flow next_task moment old new d) (same : new.state ≡ old.state) where
  abbrev start : Turn
  start = turn_at flow (record { flow = old.state.next_flow; task = next_task })

  next_flow : old.state.next_flow ≡ new.state.next_flow
  next_flow = ap (λ (x : State). x.next_flow) (sym same)

  next_number : old.state.next_task ≡ new.state.next_task
  next_number = ap (λ (x : State). x.next_task) (sym same)

  limit : d.next_task ≤ 2 ^ 56
  limit = let last = h.told.next_task in let tasks = h.tasks in omega (arith, tasks, last)

  all_started : AreStarted new.state.next_flow (map (λ (f : FlowRoom). f.flow) d.started.items)
  all_started = told_started_from new.state.next_flow start h.turn d refl next_flow h.later h.told

  numbers_left : new.state.next_flow + length d.started.items ≤ 2 ^ 56
  numbers_left =
      let count = told_next start h.turn d refl h.later h.told in
      let flows = h.flows in
      let next = next_flow in
      omega (arith, count, flows, next)

  room : d.next_task ≤ new.rooms.tasks + new.state.next_task
  room = let tasks = h.room_tasks in let next = next_number in omega (arith, tasks, next)

  found_now : (k : Kept) → flow_numbered flow.number old.state.flows ≡ Some k → flow_numbered d.flow.flow.number new.state.flows ≡ Some k
  found_now k found =
      ap (λ (f : Flow). flow_numbered f.number new.state.flows) h.told.flow
      ∙ ap (λ n. flow_numbered n new.state.flows) h.later.number
      ∙ ap (λ (x : State). flow_numbered flow.number x.flows) same
      ∙ found

  -- a flow that had grown has grown further
  pub old_ready : (k : Kept) → flow_numbered flow.number old.state.flows ≡ Some k → IsGrown k.flow.attempts flow.attempts old.state.next_task next_task → IsOldFlow (table_of new) d
  old_ready k found grown =
      let further : IsGrown k.flow.attempts h.turn.flow.attempts old.state.next_task h.turn.next_task =
      grown_further k.flow.attempts flow.attempts h.turn.flow.attempts old.state.next_task next_task h.turn.next_task grown h.later.attempts in
      let here : IsGrown k.flow.attempts d.flow.flow.attempts new.state.next_task d.next_task =
      subst (λ (f : Flow). IsGrown k.flow.attempts f.attempts new.state.next_task d.next_task) (sym h.told.flow)
      (subst (λ n. IsGrown k.flow.attempts h.turn.flow.attempts new.state.next_task n) (sym h.told.next_task)
      (subst (λ n. IsGrown k.flow.attempts h.turn.flow.attempts n h.turn.next_task) next_number further)) in
      grown_ready (table_of new) k d (found_now k found) here limit all_started numbers_left h.room_flows room

  -- a flow without attempts has new ones alone
  pub anew_ready : (k : Kept) → flow_numbered flow.number old.state.flows ≡ Some k → flow.attempts ≡ [] → next_task ≡ old.state.next_task → IsFlowAnew (table_of new) d
  anew_ready k found none next =
      let grown : IsGrown [] h.turn.flow.attempts next_task h.turn.next_task =
      subst (λ xs. IsGrown xs h.turn.flow.attempts next_task h.turn.next_task) none (later_grown flow.attempts h.turn.flow.attempts next_task h.turn.next_task h.later.attempts) in
      let rising : RisingTo new.state.next_task d.next_task d.flow.flow.attempts =
      subst (λ (f : Flow). RisingTo new.state.next_task d.next_task f.attempts) (sym h.told.flow)
      (subst (λ n. RisingTo new.state.next_task n h.turn.flow.attempts) (sym h.told.next_task)
      (subst (λ n. RisingTo n h.turn.next_task h.turn.flow.attempts) (next ∙ next_number) (grown_new h.turn.flow.attempts next_task h.turn.next_task grown))) in
      let count = rising_length new.state.next_task d.next_task d.flow.flow.attempts rising in
      let tasks = room in
      record {
        anew = record { old = k; found = found_now k found; rising = rising };
        limit = limit;
        started = all_started;
        numbers_left = numbers_left;
        room_flows = h.room_flows;
        room_tasks = omega (arith, tasks, count);
      }

-- ---- an attempt takes a result

abbrev pub with_result : ℕ → TaskResult → Flow → Attempt → Flow
with_result e outcome f a = record f { attempts = with_attempt (result_applied e (is_kind_at is_simple f.def a.node) outcome a) f.attempts }

pub result_taken : (task : TaskNo) (e : ℕ) (outcome : TaskResult) (flow new : Flow) (a : Attempt) (r : Result Bool Refusal)
    → attempt_numbered task flow.attempts ≡ Some a → task_is_open a.status ≡ true → is_kind_at takes_update flow.def a.node ≡ true
    → r ≡ update_answer flow.def (attempt_numbered task flow.attempts)
    → (r ≡ Ok true → IsSomeAnd (attempt_numbered task flow.attempts) (λ a. new ≡ with_result e outcome flow a))
    → new ≡ with_result e outcome flow a
result_taken task e outcome flow new a r there is_open takes answer applied =
    let ok : r ≡ Ok true = answer ∙ ap (update_answer flow.def) there ∙ rw (is_open, takes) refl in
    subst (λ o. IsSomeAnd o (λ a. new ≡ with_result e outcome flow a)) there (applied ok)

-- what an attempt's result makes of a kept flow
pub result_changed : (task : TaskNo) (e : ℕ) (outcome : TaskResult) (f : Flow) (a : Attempt) (s : State) (old : Kept) → flow_numbered f.number s.flows ≡ Some old → old.flow ≡ f
    → RisingTo 1 s.next_task f.attempts → IsChanged (with_result e outcome f a) s
result_changed task e outcome f a s old found same rising =
    let b = result_applied e (is_kind_at is_simple f.def a.node) outcome a in
    record {
      old = old;
      found = found;
      numbers = numbers-with b f.attempts ∙ ap (λ (g : Flow). map attempt_number g.attempts) (sym same);
      rising = rising_with_to 1 s.next_task b f.attempts rising;
    }

-- what holds of each result holds of the one that there is
pub if_ok : {A E : Type 0} (P Q : A → Type 0) (r : Result A E) → ((x : A) → P x → Q x) → IfOk r P → IfOk r Q
if_ok P Q (Ok x) f h = f x h
if_ok P Q (Err e) f h = tt

-- what holds of a result by three clauses
pub if_all : {A E : Type 0} (P Q R S : A → Type 0) (r : Result A E) → ((x : A) → P x → Q x → R x → S x) → IfOk r P → IfOk r Q → IfOk r R → IfOk r S
if_all P Q R S (Ok x) f p q r = f x p q r
if_all P Q R S (Err e) f p q r = tt

pub none_started : (number : ℕ) (d : Decided) → d.started.items ≡ [] → AreStarted number (map (λ (f : FlowRoom). f.flow) d.started.items)
none_started number d none = subst (λ (xs : List FlowRoom). AreStarted number (map (λ (f : FlowRoom). f.flow) xs)) (sym none) tt
