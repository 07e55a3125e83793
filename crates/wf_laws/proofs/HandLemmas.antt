-- What each call leaves of a sound state, and of an attempt that was handed out.
use Rattle.std.proofs.Common.{◌≡◌, ℕ, ◌+◌, ◌<◌, ◌≤◌, max, Bool, true, false, not, if◌then◌else◌, is_some, ◌==◌, ◌&&◌, ◌||◌, All, List, [], ◌∷◌, ◌++◌, map, Option, None, Some, ◌⊎◌, inl, inr, refl, sym, ap, ◌∙◌, subst, arith}
use Rattle.std.proofs.lemmas.Bool.{cases_lt}
use Rattle.std.proofs.lemmas.Bool.Decides.{nat_tests}
use Rattle.std.proofs.lemmas.List.Elements.{All-append, All-cons, All-head, All-nil, All-tail}
use Rattle.std.specs.Prelude.{filter, option_map}
use Rattle.std.specs.List.{find}
use Rattle.std.specs.Option.{option_map_or}
use Rattle.wf_doc.specs.declared.doc.Doc.{Doc}
use Rattle.wf_names.specs.declared.ids.FlowNo.{FlowNo}
use Rattle.wf_names.specs.declared.ids.TaskNo.{TaskNo}
use Rattle.wf_names.specs.declared.refusals.Refusal.{Refusal}
use Rattle.wf_names.specs.declared.refusals.Refusal.TheVariants.{NotFound, DocumentLimit}
use Rattle.wf_names.specs.declared.statuses.TaskStatus.{TaskStatus}
use Rattle.wf_names.specs.declared.statuses.TaskStatus.TheVariants as task
use Rattle.wf_names.specs.TaskStatus.{task_is_open}
use Rattle.wf_wire.specs.declared.limits.Limits.{Limits}
use Rattle.wf_machine.specs.declared.definition.FlowDef.{FlowDef}
use Rattle.wf_machine.specs.declared.definition.TaskDef.{TaskDef}
use Rattle.wf_machine.specs.declared.calling.TaskResult.{TaskResult}
use Rattle.wf_steps.specs.declared.calling.Call.{Call}
use Rattle.wf_steps.specs.declared.calling.Call.TheVariants.{PutTaskDefs, UpdateTaskDef, TaskDefs, TaskDefNamed, DropTaskDef, AddFlowDef, PutFlowDefs, FlowDefs, FlowDefNamed, DropFlowDef, Start, GetFlow, Running, Poll, GetTask, Update, Decide, Sweep, Operate, Remove, Shutdown, Look, Drain}
use Rattle.wf_steps.specs.declared.calling.Entry.{Entry}
use Rattle.wf_steps.specs.declared.operation.Operation.{Operation}
use Rattle.wf_machine.specs.declared.calling.Reply.{Reply}
use Rattle.wf_machine.specs.declared.calling.Reply.TheVariants.{Nothing}
use Rattle.wf_machine.specs.State.{Attempt, Flow, Kept, State, RisingTo, attempt_numbered, is_numbered, new_flow, with_attempt}
use Rattle.wf_machine.specs.Records.{Each, Held, is_kind_at, is_scheduled, is_simple}
use Rattle.wf_machine.specs.Flows.{flow_numbered, flow_of_task, has_attempt, is_flow, new_kept, removed}
use Rattle.wf_machine.specs.Naming.{with_template}
use Rattle.wf_machine.specs.Operators.{first_refusal, remove_refusals}
use Rattle.wf_machine.specs.Queues.{Waiting, all_waiting, earlier, comes_before, first_waiting, is_ready, next_waiting, waiting_in}
use Rattle.wf_machine.specs.Registered.{task_def_named, flow_def_at, flow_def_for}
use Rattle.wf_machine.specs.Tasks.{goes_on, handed_out, is_result_status, result_applied, result_noted, takes_update}
use Rattle.wf_rules.specs.Acts.{Turn}
use Rattle.wf_rules.specs.Plans.{turn_at}
use Rattle.wf_steps.specs.Calls.{Stepped, stepped, IsProper, call_made, put_task_defs, update_task_def, drop_task_def, get_task_def, register, put_flow_defs, drop_flow_def, get_flow_def, get_running, start, start_of, started, refused, is_full, is_too_long, is_settled, decided, with_decided, settle, needs, decide_flow, sweep, get_flow, get_task, poll, hand_over, update, update_of, is_wanted, task_updated, settled_with, or_refused, operation_refusals, operated, next_after, stops_flow, with_undecided, with_operated, operate, is_parent_kept, remove, step}
use Rattle.wf_steps.specs.History.{state_from}
use Rattle.wf_laws.specs.HandOuts.{HandsOut, handed_by, is_accepted, is_in_progress, is_told_on, tells_on}
use Rattle.wf_laws.specs.Sound.{IsLater, IsSound, IsSoundFlow}
use Rattle.wf_rules.proofs.MakeLemmas.{rising_through}
use Rattle.wf_laws.proofs.LaterLemmas.{later_still, left_later, new_later, removed_later, same_later}
use Rattle.wf_laws.proofs.OperatorLemmas.{next_later, operated_changed, operated_count, removed_count, removed_sound, stopped_next}
use Rattle.wf_laws.proofs.SoundLemmas.{IsChanged, IsLeft, Stands, count, count_all, count_ahead, count_all_append, counts_tally, one, one_if, one_numbered, decided_count, decided_left, left_count, left_raised, left_sound, raised, raised_sound, rise_append, unchanged, undecided_left}

-- ---- attempts that were handed out

-- the number was given, and no attempt of that number waits to be handed out
record IsOut (task : TaskNo) (s : State) : Type 0 where
  waits : count_all false task s.flows ≡ 0
  old : task.0 < s.next_task

-- the second state is sound and later, and those attempts that were handed out are so still
record Leads (s t : State) (On : TaskNo → Type 0) : Type 0 where
  sound : IsSound t
  later : IsLater s t
  out : (task : TaskNo) → On task → IsOut task s → IsOut task t

-- a state with the same flows and next numbers
keeps : {On : TaskNo → Type 0} {s t : State} → IsSound s → t.flows ≡ s.flows → t.next_flow ≡ s.next_flow → t.next_task ≡ s.next_task → Leads s t On
keeps {On} {s} {t} sound flows next_flow next_task = record {
  sound = record {
    rise = rw (flows, next_flow) sound.rise;
    from_one = rw next_task sound.from_one;
    flows = rw (flows, next_task) sound.flows;
    once = λ task. rw flows (sound.once task);
  };
  later = same_later flows next_flow next_task;
  out = λ task on h. record { waits = rw flows h.waits; old = rw next_task h.old };
}

left_leads : {On : TaskNo → Type 0} (place : ℕ) (before : Flow) (s t : State) (k : Kept) (turn : Turn) → IsSound s → IsLeft place before s t k turn
    → ((task : TaskNo) → task.0 < s.next_task → count true task turn.flow.attempts ≤ count true task k.flow.attempts)
    → ((task : TaskNo) → On task → task.0 < s.next_task → count false task turn.flow.attempts ≤ count false task k.flow.attempts) → Leads s t On
left_leads {On} place before s t k turn sound left few fewer = record {
  sound = left_sound place before s t k turn sound left few;
  later = left_later place before s t k turn sound left few;
  out = λ task on h.
      let swap = left_count place before s t k turn sound left false task in
      let was = h.waits in
      let old = h.old in
      let fall = fewer task on old in
      let more = left.tasks in
      let next = left.next_task in
      record { waits = omega (arith, swap, was, fall); old = omega (arith, old, more, next) };
}

-- numbers below `more` are passed over, and the flow that is so now is decided
raised_leads : {On : TaskNo → Type 0} (limits : Limits) (place e more : ℕ) (before now : Flow) (s : State) (k : Kept) → s.next_task ≤ more → IsSound s → IsChanged (raised more s) k now
    → ((task : TaskNo) → task.0 < s.next_task → count true task now.attempts ≤ count true task k.flow.attempts)
    → ((task : TaskNo) → On task → task.0 < s.next_task → count false task now.attempts ≤ count false task k.flow.attempts)
    → Leads s (with_decided limits place e before now (raised more s)) On
raised_leads {On} limits place e more before now s k order sound changed few fewer =
    left_leads place before s (with_decided limits place e before now (raised more s)) k (decided limits e now (raised more s)) sound
    (left_raised more place before s (with_decided limits place e before now (raised more s)) k (decided limits e now (raised more s)) order
    (decided_left limits place e before now (raised more s) k (raised_sound more s order sound) changed))
    (λ task old. let a = decided_count limits place e before now (raised more s) true task (omega (arith, old, order)) in let b = few task old in omega (arith, a, b))
    (λ task on old. let a = decided_count limits place e before now (raised more s) false task (omega (arith, old, order)) in let b = fewer task on old in omega (arith, a, b))

decided_leads : {On : TaskNo → Type 0} (limits : Limits) (place e : ℕ) (before now : Flow) (s : State) (k : Kept) → IsSound s → IsChanged s k now
    → ((task : TaskNo) → count true task now.attempts ≤ count true task k.flow.attempts)
    → ((task : TaskNo) → On task → count false task now.attempts ≤ count false task k.flow.attempts) → Leads s (with_decided limits place e before now s) On
decided_leads {On} limits place e before now s k sound changed few fewer =
    raised_leads limits place e s.next_task before now s k (omega arith) sound changed (λ task old. few task) (λ task on old. fewer task on)

settle_leads : {On : TaskNo → Type 0} (limits : Limits) (place e : ℕ) (s : State) (k : Kept) → IsSound s → Stands k s.flows → Leads s (settle limits place e k.flow s) On
settle_leads {On} limits place e s k sound stands = by_test (is_settled limits e s k.flow) where
  by_test : (b : Bool) → Leads s (if b then s else with_decided limits place e k.flow k.flow s) On
  by_test true = keeps sound refl refl refl
  by_test false = decided_leads limits place e k.flow k.flow s k sound (unchanged s k sound stands) (λ task. omega arith) (λ task on. omega arith)

-- ---- one attempt in place of that of its number

with_count : (all : Bool) (task : TaskNo) (b : Attempt) (xs : List Attempt) → ((x : Attempt) → is_numbered b.number x ≡ true → one all task b ≤ one all task x)
    → count all task (with_attempt b xs) ≤ count all task xs
with_count all task b [] less = omega arith
with_count all task b (x ∷ xs) less = let h = with_count all task b xs less in let k = by_test (is_numbered b.number x) (less x) in omega (arith, h, k) where
  by_test : (t : Bool) → (t ≡ true → one all task b ≤ one all task x) → one all task (if t then b else x) ≤ one all task x
  by_test true h = h refl
  by_test false h = omega arith

with_numbers : (task : TaskNo) (b : Attempt) (xs : List Attempt) → count true task (with_attempt b xs) ≤ count true task xs
with_numbers task b xs = with_count true task b xs (λ x is. (let same : x.number.0 ≡ b.number.0 = grind (arith, nat_tests) in rw same (omega arith)))

with_rising : (low high : ℕ) (b : Attempt) (xs : List Attempt) → RisingTo low high xs → RisingTo low high (with_attempt b xs)
with_rising low high b xs rising = rising_through low high (λ a. if is_numbered b.number a then b else a) xs (λ a. by_test a (is_numbered b.number a) refl) rising where
  no : ℕ → TaskNo
  no n = record { 0 = n }

  by_test : (a : Attempt) (t : Bool) → is_numbered b.number a ≡ t → (if t then b else a).number ≡ a.number
  by_test a true is = let same : b.number.0 ≡ a.number.0 = grind (arith, nat_tests) in ap no same
  by_test a false is = refl

with_changed : (s : State) (k : Kept) (b : Attempt) → IsSound s → Stands k s.flows → IsChanged s k (record k.flow { attempts = with_attempt b k.flow.attempts })
with_changed s k b sound stands =
    let was = unchanged s k sound stands in
    record {
      stands = stands;
      number = refl;
      parent = refl;
      rising = with_rising 1 s.next_task b k.flow.attempts was.rising;
    }

-- ---- what waits

each_weaker : {T : Type 0} (P Q : T → Type 0) (xs : List T) → ((x : T) → P x → Q x) → Each P xs → Each Q xs
each_weaker P Q [] weaker each = tt
each_weaker P Q (x ∷ xs) weaker each = (weaker x each.0, each_weaker P Q xs weaker each.1)

each_append : {T : Type 0} (P : T → Type 0) (xs ys : List T) → Each P xs → Each P ys → Each P (xs ++ ys)
each_append P [] ys left right = right
each_append P (x ∷ xs) ys left right = (left.0, each_append P xs ys left.1 right)

-- a SCHEDULED attempt is counted
scheduled_counts : (xs : List Attempt) → Each (λ a. is_scheduled a.status ≡ true → 0 < count false a.number xs) xs
scheduled_counts [] = tt
scheduled_counts (x ∷ xs) = (
  λ h. (let same : is_numbered x.number x ≡ true = grind (arith, nat_tests) in rw (h, same) (omega arith)),
  each_weaker (λ a. is_scheduled a.status ≡ true → 0 < count false a.number xs) (λ a. is_scheduled a.status ≡ true → 0 < count false a.number (x ∷ xs)) xs
      (λ a h is. let more = h is in omega (arith, more)) (scheduled_counts xs),
)

-- it is an attempt of a kept flow, and SCHEDULED
pub record IsWaiting (flows : List Kept) (w : Waiting) : Type 0 where
  pub revision : ℕ
  pub stands : Stands (record { flow = w.flow; revision = revision }) flows
  waits : 0 < count false w.attempt.number w.flow.attempts

abbrev IsCounted : Flow → Waiting → Type 0
IsCounted f w = (w.flow ≡ f) × (0 < count false w.attempt.number f.attempts)

ready_scheduled : (name : List ℕ) (e : ℕ) (def : FlowDef) (a : Attempt) → is_ready name e def a ≡ true → is_scheduled a.status ≡ true
ready_scheduled name e def a h = by_test (is_scheduled a.status) _ _ h where
  by_test : (b c d : Bool) → (b && c && d) ≡ true → b ≡ true
  by_test true c d h = refl
  by_test false c d h = h

filtered_count : (name : List ℕ) (e : ℕ) (f : Flow) (xs : List Attempt) → Each (λ a. is_scheduled a.status ≡ true → 0 < count false a.number f.attempts) xs
    → Each (IsCounted f) (map (λ a. record { flow = f; attempt = a }) (filter (is_ready name e f.def) xs))
filtered_count name e f [] each = tt
filtered_count name e f (x ∷ xs) each = by_test (is_ready name e f.def x) refl (filtered_count name e f xs each.1) where
  by_test : (b : Bool) → is_ready name e f.def x ≡ b → Each (IsCounted f) (map (λ a. record { flow = f; attempt = a }) (filter (is_ready name e f.def) xs))
      → Each (IsCounted f) (map (λ a. record { flow = f; attempt = a }) (if b then x ∷ filter (is_ready name e f.def) xs else filter (is_ready name e f.def) xs))
  by_test true is h = ((refl, each.0 (ready_scheduled name e f.def x is)), h)
  by_test false is h = h

all_wait : (name : List ℕ) (e : ℕ) (ks : List Kept) → Each (IsWaiting ks) (all_waiting name e ks)
all_wait name e [] = tt
all_wait name e (k ∷ ks) =
    each_append (IsWaiting (k ∷ ks)) (waiting_in name e k.flow) (all_waiting name e ks)
    (each_weaker (IsCounted k.flow) (IsWaiting (k ∷ ks)) (waiting_in name e k.flow)
    (λ w h. record {
      revision = k.revision;
      stands = inl (ap (λ (f : Flow). record { flow = f; revision = k.revision }) (sym h.0));
      waits = subst (λ (f : Flow). 0 < count false w.attempt.number f.attempts) (sym h.0) h.1;
    })
    (filtered_count name e k.flow k.flow.attempts (scheduled_counts k.flow.attempts)))
    (each_weaker (IsWaiting ks) (IsWaiting (k ∷ ks)) (all_waiting name e ks)
    (λ w h. record { revision = h.revision; stands = inr h.stands; waits = h.waits }) (all_wait name e ks))

first_held : (P : Waiting → Type 0) (ws : List Waiting) → Each P ws → Held P (first_waiting ws)
first_held P [] each = tt
first_held P (w ∷ ws) each = by_rest (first_waiting ws) (first_held P ws each.1) where
  by_order : (v : Waiting) (b : Bool) → P v → Held P (if b then Some v else Some w)
  by_order v true h = h
  by_order v false h = each.0

  by_rest : (o : Option Waiting) → Held P o → Held P (earlier (Some w) o)
  by_rest None h = each.0
  by_rest (Some v) h = by_order v (comes_before v w) h

pub next_waits : (name : List ℕ) (e : ℕ) (flows : List Kept) → Held (IsWaiting flows) (next_waiting name e flows)
next_waits name e flows = first_held (IsWaiting flows) (all_waiting name e flows) (all_wait name e flows)

counted_in : (all : Bool) (task : TaskNo) (k : Kept) (ks : List Kept) → Stands k ks → count all task k.flow.attempts ≤ count_all all task ks
counted_in all task k [] there = absurd there
counted_in all task k (x ∷ xs) (inl same) = let was = ap (λ (y : Kept). count all task y.flow.attempts) same in omega (arith, was)
counted_in all task k (x ∷ xs) (inr there) = let h = counted_in all task k xs there in omega (arith, h)

scheduled_fewer : (task : TaskNo) (xs : List Attempt) → count false task xs ≤ count true task xs
scheduled_fewer task [] = omega arith
scheduled_fewer task (x ∷ xs) = let h = scheduled_fewer task xs in let k = by_tests (is_scheduled x.status) (is_numbered task x) in omega (arith, h, k) where
  by_tests : (b c : Bool) → one_if (b && c) ≤ one_if c
  by_tests true c = omega arith
  by_tests false c = omega arith

scheduled_fewer_all : (task : TaskNo) (ks : List Kept) → count_all false task ks ≤ count_all true task ks
scheduled_fewer_all task [] = omega arith
scheduled_fewer_all task (k ∷ ks) = let h = scheduled_fewer task k.flow.attempts in let more = scheduled_fewer_all task ks in omega (arith, h, more)

-- ---- hand-outs

module _ (place e : ℕ) (name worker : List ℕ) (s : State) (sound : IsSound s) (w : Waiting) (h : IsWaiting s.flows w) where
  abbrev was_kept : Kept
  was_kept = record { flow = w.flow; revision = h.revision }

  abbrev with_given : Flow
  with_given = record w.flow { attempts = with_attempt (handed_out e worker w.attempt) w.flow.attempts }

  abbrev given_turn : Turn
  given_turn = turn_at with_given (record { flow = s.next_flow; task = s.next_task })

  handed_left : IsLeft place w.flow s (hand_over place e name worker w s).state was_kept given_turn
  handed_left =
      undecided_left place w.flow with_given s (hand_over place e name worker w s).state was_kept (with_changed s was_kept (handed_out e worker w.attempt) sound h.stands) refl refl refl

  handed_leads : {On : TaskNo → Type 0} → Leads s (hand_over place e name worker w s).state On
  handed_leads {On} =
      left_leads place w.flow s (hand_over place e name worker w s).state was_kept given_turn sound handed_left
      (λ task old. with_numbers task (handed_out e worker w.attempt) w.flow.attempts)
      (λ task on old. with_count false task (handed_out e worker w.attempt) w.flow.attempts (λ x is. omega arith))

  -- the attempt was the only one of its number, and waits no more
  handed_is_out : IsOut w.attempt.number (hand_over place e name worker w s).state
  handed_is_out =
      let task = w.attempt.number in
      let once = sound.once task in
      let same = counts_tally task s.flows in
      let fewer = scheduled_fewer_all task s.flows in
      let swap = left_count place w.flow s (hand_over place e name worker w s).state was_kept given_turn sound handed_left false task in
      let waits = h.waits in
      let none = none_waits w.flow.attempts in
      record { waits = omega (arith, once, same, fewer, swap, waits, none); old = given_before (cases_lt task.0 s.next_task) }
    where
      none_waits : (xs : List Attempt) → count false w.attempt.number (with_attempt (handed_out e worker w.attempt) xs) ≡ 0
      none_waits [] = refl
      none_waits (x ∷ xs) = let more = none_waits xs in let one = by_test (is_numbered w.attempt.number x) refl in omega (arith, more, one) where
        by_scheduled : (b : Bool) → one_if (b && false) ≡ 0
        by_scheduled true = refl
        by_scheduled false = refl

        by_test : (t : Bool) → is_numbered w.attempt.number x ≡ t → one false w.attempt.number (if t then handed_out e worker w.attempt else x) ≡ 0
        by_test true is = refl
        by_test false is = rw is (by_scheduled (is_scheduled x.status))

      given_before : (w.attempt.number.0 < s.next_task) ⊎ (s.next_task ≤ w.attempt.number.0) → w.attempt.number.0 < s.next_task
      given_before (inl old) = old
      given_before (inr new) =
          let none = count_ahead false w.attempt.number s.next_task s.flows sound.flows new in
          let there = counted_in false w.attempt.number was_kept s.flows h.stands in
          let waits = h.waits in
          omega (arith, none, there, waits)

-- ---- what is found

held_weaker : {T : Type 0} (P Q : T → Type 0) (o : Option T) → ((x : T) → P x → Q x) → Held P o → Held Q o
held_weaker P Q None weaker h = tt
held_weaker P Q (Some x) weaker h = weaker x h

find_stands : (p : Kept → Bool) (ks : List Kept) → Held (λ k. Stands k ks) (find p ks)
find_stands p [] = tt
find_stands p (x ∷ xs) = by_test (p x) (held_weaker (λ k. Stands k xs) (λ k. Stands k (x ∷ xs)) (find p xs) (λ k there. inr there) (find_stands p xs)) where
  by_test : (b : Bool) → Held (λ k. Stands k (x ∷ xs)) (find p xs) → Held (λ k. Stands k (x ∷ xs)) (if b then Some x else find p xs)
  by_test true h = inl refl
  by_test false h = h

find_numbered : (number : TaskNo) (xs : List Attempt) → Held (λ a. a.number.0 ≡ number.0) (attempt_numbered number xs)
find_numbered number [] = tt
find_numbered number (x ∷ xs) = by_test (is_numbered number x) refl (find_numbered number xs) where
  by_test : (b : Bool) → is_numbered number x ≡ b → Held (λ a. a.number.0 ≡ number.0) (attempt_numbered number xs)
      → Held (λ a. a.number.0 ≡ number.0) (if b then Some x else attempt_numbered number xs)
  by_test true is h = grind (arith, nat_tests)
  by_test false is h = h

-- ---- calls

-- what a call leaves, with its reply: attempts that were handed out are so still, unless an accepted update tells that one goes on
abbrev Follows : Call → State → Stepped → Type 0
Follows call s x = Leads s x.state (λ task. IsProper call × ((tells_on task call && is_accepted x.reply) ≡ false))

follows_if : (call : Call) (s : State) (b : Bool) (x y : Stepped) → Follows call s x → Follows call s y → Follows call s (if b then x else y)
follows_if call s true x y p q = p
follows_if call s false x y p q = q

follows_found : {T : Type 0} (P : T → Type 0) (call : Call) (s : State) (o : Option T) (f : T → Stepped) (x : Stepped) → Held P o
    → ((v : T) → P v → Follows call s (f v)) → Follows call s x → Follows call s (option_map_or f o x)
follows_found P call s None f x held p q = q
follows_found P call s (Some v) f x held p q = p v held

follows_refused : (call : Call) (s : State) (o : Option Refusal) (made : Stepped) → IsSound s → Follows call s made → Follows call s (or_refused o made s)
follows_refused call s None made sound p = p
follows_refused call s (Some refusal) made sound p = keeps sound refl refl refl

-- ---- updates

-- the number stays, and only an attempt that goes on is SCHEDULED
applied_number : (e : ℕ) (simple : Bool) (r : TaskResult) (a : Attempt) → (result_applied e simple r a).number ≡ a.number
applied_number e simple r a = by_status r.status refl where
  by_status : (status : TaskStatus) → r.status ≡ status → (result_applied e simple r a).number ≡ a.number
  by_status task.InProgress is = rw is (by_kind simple) where
    by_kind : (b : Bool) → (goes_on e r.callback b (result_noted e r a)).number ≡ a.number
    by_kind true = refl
    by_kind false = refl
  by_status task.Scheduled is = rw is refl
  by_status task.Completed is = rw is refl
  by_status task.CompletedWithErrors is = rw is refl
  by_status task.Failed is = rw is refl
  by_status task.FailedWithTerminalError is = rw is refl
  by_status task.TimedOut is = rw is refl
  by_status task.Canceled is = rw is refl
  by_status task.Skipped is = rw is refl

applied_over : (e : ℕ) (simple : Bool) (r : TaskResult) (a : Attempt) → is_result_status r.status ≡ true → is_in_progress r.status ≡ false → is_scheduled (result_applied e simple r a).status ≡ false
applied_over e simple r a = by_status r.status refl where
  by_status : (status : TaskStatus) → r.status ≡ status → is_result_status status ≡ true → is_in_progress status ≡ false → is_scheduled (result_applied e simple r a).status ≡ false
  by_status task.InProgress is h k = cc
  by_status task.Scheduled is h k = cc
  by_status task.Completed is h k = rw is refl
  by_status task.CompletedWithErrors is h k = cc
  by_status task.Failed is h k = rw is refl
  by_status task.FailedWithTerminalError is h k = rw is refl
  by_status task.TimedOut is h k = cc
  by_status task.Canceled is h k = cc
  by_status task.Skipped is h k = cc

applied_waits : (e : ℕ) (simple : Bool) (r : TaskResult) (a : Attempt) (task number : TaskNo) → a.number.0 ≡ number.0 → is_result_status r.status ≡ true
    → (((number.0 == task.0) && is_in_progress r.status) && true) ≡ false → one false task (result_applied e simple r a) ≡ 0
applied_waits e simple r a task number same proper told = by_number (is_numbered task (result_applied e simple r a)) refl where
  by_number : (b : Bool) → is_numbered task (result_applied e simple r a) ≡ b → one false task (result_applied e simple r a) ≡ 0
  by_number false is = one_numbered false task (result_applied e simple r a) is
  by_number true is =
      let there : a.number.0 ≡ task.0 = let n = ap (λ (x : TaskNo). x.0) (applied_number e simple r a) in grind (arith, nat_tests) in
      let own : (number.0 == task.0) ≡ true = grind (arith, nat_tests) in
      let over : is_in_progress r.status ≡ false = by_test (is_in_progress r.status) (ap (λ b. (b && is_in_progress r.status) && true) (sym own) ∙ told) in
      rw (applied_over e simple r a proper over) refl
    where
      by_test : (b : Bool) → (b && true) ≡ false → b ≡ false
      by_test true h = h
      by_test false h = refl

settled_follows : (limits : Limits) (place e : ℕ) (wanted : Option FlowNo) (number : TaskNo) (outcome : TaskResult) (k : Kept) (a : Attempt) (s : State) → IsSound s → Stands k s.flows
    → a.number.0 ≡ number.0 → Follows (Update wanted number outcome) s (settled_with limits place e outcome k.flow a s)
settled_follows limits place e wanted number outcome k a s sound stands same =
    let simple = is_kind_at is_simple k.flow.def a.node in
    let applied = result_applied e simple outcome a in
    decided_leads limits place e k.flow (record k.flow { attempts = with_attempt applied k.flow.attempts }) s k sound (with_changed s k applied sound stands) (λ task. with_numbers task applied k.flow.attempts)
    (λ task on. with_count false task applied k.flow.attempts (λ x is. let none = applied_waits e simple outcome a task number same on.0.0 on.1 in omega (arith, none)))

task_follows : (limits : Limits) (place e : ℕ) (wanted : Option FlowNo) (number : TaskNo) (outcome : TaskResult) (k : Kept) (a : Attempt) (s : State) → IsSound s → Stands k s.flows
    → a.number.0 ≡ number.0 → Follows (Update wanted number outcome) s (task_updated limits place e outcome k.flow a s)
task_follows limits place e wanted number outcome k a s sound stands same =
    follows_if (Update wanted number outcome) s (not (task_is_open a.status)) _ _ (keeps sound refl refl refl)
    (follows_if (Update wanted number outcome) s (not (is_kind_at takes_update k.flow.def a.node)) _ _ (keeps sound refl refl refl)
    (settled_follows limits place e wanted number outcome k a s sound stands same))

flow_follows : (limits : Limits) (place e : ℕ) (wanted : Option FlowNo) (number : TaskNo) (outcome : TaskResult) (o : Option Kept) (s : State) → IsSound s → Held (λ k. Stands k s.flows) o
    → Follows (Update wanted number outcome) s (update_of limits place e wanted number outcome o s)
flow_follows limits place e wanted number outcome None s sound held = keeps sound refl refl refl
flow_follows limits place e wanted number outcome (Some k) s sound held =
    follows_if (Update wanted number outcome) s (is_wanted wanted k.flow.number) _ _
    (follows_found (λ a. a.number.0 ≡ number.0) (Update wanted number outcome) s (attempt_numbered number k.flow.attempts) _ _ (find_numbered number k.flow.attempts)
    (λ a same. task_follows limits place e wanted number outcome k a s sound held same) (keeps sound refl refl refl))
    (keeps sound refl refl refl)

-- ---- starts

module _ (place e : ℕ) (def : FlowDef) (input : Doc) (correlation : List ℕ) (s : State) (sound : IsSound s) where
  abbrev flow_made : Flow
  flow_made = new_flow (record { 0 = s.next_flow }) def input correlation None 0 e

  abbrev with_new : State
  with_new = record s { next_flow = s.next_flow + 1; flows = s.flows ++ new_kept place flow_made ∷ [] }

  new_count : (all : Bool) (task : TaskNo) → count_all all task with_new.flows ≡ count_all all task s.flows
  new_count all task = let h = count_all_append all task s.flows (new_kept place flow_made ∷ []) in omega (arith, h)

  new_sound : IsSound with_new
  new_sound =
      record {
        from_one = sound.from_one;
        rise = rise_append 1 s.next_flow (s.next_flow + 1) s.flows (new_kept place flow_made ∷ []) sound.rise (omega arith, omega arith);
        flows =
            All-append (IsSoundFlow s.next_task) s.flows (new_kept place flow_made ∷ []) sound.flows
            (All-cons (IsSoundFlow s.next_task) (new_kept place flow_made) [] (record { rising = sound.from_one; parent = tt }) (All-nil (IsSoundFlow s.next_task)));
        once = λ task. (let h = new_count true task in let a = counts_tally task s.flows in let b = counts_tally task with_new.flows in let c = sound.once task in omega (arith, h, a, b, c));
      }

  new_stands : (ks : List Kept) → Stands (new_kept place flow_made) (ks ++ new_kept place flow_made ∷ [])
  new_stands [] = inl refl
  new_stands (k ∷ ks) = inr (new_stands ks)

  started_leads : {On : TaskNo → Type 0} (limits : Limits) → Leads s (started limits place e def input correlation s).state On
  started_leads {On} limits =
      let stands = new_stands s.flows in
      let more : Leads with_new (started limits place e def input correlation s).state On =
      decided_leads limits place e flow_made flow_made with_new (new_kept place flow_made) new_sound (unchanged with_new (new_kept place flow_made) new_sound stands) (λ task. omega arith) (λ task on. omega arith) in
      record {
        sound = more.sound;
        later = later_still (new_later place s flow_made refl refl) more.later;
        out = λ task on h. more.out task on (record { waits = new_count false task ∙ h.waits; old = h.old });
      }

start_follows : (limits : Limits) (place e : ℕ) (call : Call) (o : Option FlowDef) (input : Doc) (correlation : List ℕ) (s : State) → IsSound s → Follows call s (start_of limits place e o input correlation s)
start_follows limits place e call None input correlation s sound = keeps sound refl refl refl
start_follows limits place e call (Some def) input correlation s sound =
    let filled = with_template def.template input in
    follows_if call s (is_full limits s) _ _ (keeps sound refl refl refl)
    (follows_if call s (is_too_long limits filled) (refused DocumentLimit s) (started limits place e def filled correlation s) (keeps sound refl refl refl)
    (started_leads place e def filled correlation s sound limits))

-- ---- what operators do

module _ (limits : Limits) (place e : ℕ) (operation : Operation) (s : State) (k : Kept) (sound : IsSound s) (stands : Stands k s.flows) where
  abbrev with_operation : Flow
  with_operation = operated e s.next_task operation k.flow

  operated_fewer : (all : Bool) (task : TaskNo) → task.0 < s.next_task → count all task with_operation.attempts ≤ count all task k.flow.attempts
  operated_fewer all task old = operated_count all e s.next_task operation k.flow task old

  undecided_leads : {On : TaskNo → Type 0} → next_after operation s.next_task ≡ s.next_task → Leads s (with_undecided place e k.flow with_operation s) On
  undecided_leads {On} same =
      left_leads place k.flow s (with_undecided place e k.flow with_operation s) k (turn_at with_operation (record { flow = s.next_flow; task = s.next_task })) sound
      (undecided_left place k.flow with_operation s (with_undecided place e k.flow with_operation s) k
      (subst (λ n. IsChanged (raised n s) k with_operation) same (operated_changed e operation s k sound stands)) refl refl refl)
      (operated_fewer true) (λ task on old. operated_fewer false task old)

  operated_leads : {On : TaskNo → Type 0} → Leads s (with_operated limits place e operation k.flow s) On
  operated_leads {On} = by_test (stops_flow operation) refl where
    by_test : (b : Bool) → stops_flow operation ≡ b
        → Leads s (if b then with_undecided place e k.flow with_operation s else with_decided limits place e k.flow with_operation (raised (next_after operation s.next_task) s)) On
    by_test true is = undecided_leads (stopped_next operation s.next_task is)
    by_test false is =
        raised_leads limits place e (next_after operation s.next_task) k.flow with_operation s k (next_later operation s.next_task) sound (operated_changed e operation s k sound stands)
        (operated_fewer true) (λ task on old. operated_fewer false task old)

removed_leads : {On : TaskNo → Type 0} (place e : ℕ) (s : State) (k : Kept) → IsSound s → Stands k s.flows → Leads s (record s { last = e; flows = removed place k.flow s.flows }) On
removed_leads {On} place e s k sound stands = record {
  sound = removed_sound place e s k sound stands;
  later = removed_later place e s k sound stands;
  out = λ task on h. (let fall = removed_count place e s k sound stands false task in let was = h.waits in record { waits = omega (arith, fall, was); old = h.old });
}

-- ---- all calls

tasks_follow : (call : Call) (place e : ℕ) (defs : List TaskDef) (s : State) → IsSound s → Follows call s (put_task_defs place e defs s)
tasks_follow call place e [] s sound = keeps sound refl refl refl
tasks_follow call place e (c ∷ cs) s sound = keeps sound refl refl refl

flows_follow : (call : Call) (place e : ℕ) (defs : List FlowDef) (s : State) → IsSound s → Follows call s (put_flow_defs place e defs s)
flows_follow call place e [] s sound = keeps sound refl refl refl
flows_follow call place e (c ∷ cs) s sound = keeps sound refl refl refl

read_follows : {T : Type 0} (call : Call) (s : State) (o : Option T) (f : T → Reply) (r : Refusal) → IsSound s → Follows call s (option_map_or (λ x. stepped s (f x)) o (refused r s))
read_follows call s None f r sound = keeps sound refl refl refl
read_follows call s (Some x) f r sound = keeps sound refl refl refl

call_follows : (limits : Limits) (place e : ℕ) (call : Call) (s : State) → IsSound s → Follows call s (call_made limits place e call s)
unfolding register start get_flow get_task poll update update_task_def drop_task_def get_task_def get_flow_def drop_flow_def get_running decide_flow sweep needs operate remove
call_follows limits place e (PutTaskDefs defs) s sound = tasks_follow (PutTaskDefs defs) place e defs s sound
call_follows limits place e (UpdateTaskDef def) s sound =
    follows_if (UpdateTaskDef def) s (is_some (task_def_named def.name s.task_defs)) _ _ (keeps sound refl refl refl) (keeps sound refl refl refl)
call_follows limits place e TaskDefs s sound = keeps sound refl refl refl
call_follows limits place e (TaskDefNamed name) s sound = read_follows (TaskDefNamed name) s (task_def_named name s.task_defs) _ NotFound sound
call_follows limits place e (DropTaskDef name) s sound =
    follows_if (DropTaskDef name) s (is_some (task_def_named name s.task_defs)) _ _ (keeps sound refl refl refl) (keeps sound refl refl refl)
call_follows limits place e (AddFlowDef def) s sound =
    follows_if (AddFlowDef def) s (is_some (flow_def_at def.name def.version s.flow_defs)) _ _ (keeps sound refl refl refl) (keeps sound refl refl refl)
call_follows limits place e (PutFlowDefs defs) s sound = flows_follow (PutFlowDefs defs) place e defs s sound
call_follows limits place e FlowDefs s sound = keeps sound refl refl refl
call_follows limits place e (FlowDefNamed name version) s sound = read_follows (FlowDefNamed name version) s (flow_def_for name version s.flow_defs) _ NotFound sound
call_follows limits place e (DropFlowDef name version) s sound =
    follows_if (DropFlowDef name version) s (is_some (flow_def_at name version s.flow_defs)) _ _ (keeps sound refl refl refl) (keeps sound refl refl refl)
call_follows limits place e (Start name version input correlation) s sound =
    start_follows limits place e (Start name version input correlation) (flow_def_for name version s.flow_defs) input correlation s sound
call_follows limits place e (GetFlow number tasks) s sound = read_follows (GetFlow number tasks) s (flow_numbered number s.flows) _ NotFound sound
call_follows limits place e (Running name version) s sound = keeps sound refl refl refl
call_follows limits place e (Poll name worker) s sound =
    follows_found (IsWaiting s.flows) (Poll name worker) s (next_waiting name e s.flows) _ _ (next_waits name e s.flows)
    (λ w h. handed_leads place e name worker s sound w h) (keeps sound refl refl refl)
call_follows limits place e (GetTask task) s sound =
    follows_found (λ k. Stands k s.flows) (GetTask task) s (flow_of_task task s.flows) _ _ (find_stands (has_attempt task) s.flows)
    (λ k there. read_follows (GetTask task) s (attempt_numbered task k.flow.attempts) _ NotFound sound) (keeps sound refl refl refl)
call_follows limits place e (Update wanted number outcome) s sound =
    flow_follows limits place e wanted number outcome (flow_of_task number s.flows) s sound (find_stands (has_attempt number) s.flows)
call_follows limits place e (Decide number) s sound =
    follows_found (λ k. Stands k s.flows) (Decide number) s (flow_numbered number s.flows) _ _ (find_stands (is_flow number) s.flows)
    (λ k there. settle_leads limits place e s k sound there) (keeps sound refl refl refl)
call_follows limits place e Sweep s sound =
    follows_found (λ k. Stands k s.flows) Sweep s (needs limits e s) _ _ (find_stands (λ k. not (is_settled limits e s k.flow)) s.flows)
    (λ k there. settle_leads limits place e s k sound there) (keeps sound refl refl refl)
call_follows limits place e (Operate number operation) s sound =
    follows_found (λ k. Stands k s.flows) (Operate number operation) s (flow_numbered number s.flows) _ _ (find_stands (is_flow number) s.flows)
    (λ k there. follows_refused (Operate number operation) s (first_refusal (operation_refusals limits s.next_task operation k.flow)) _ sound (operated_leads limits place e operation s k sound there))
    (keeps sound refl refl refl)
call_follows limits place e (Remove number) s sound =
    follows_found (λ k. Stands k s.flows) (Remove number) s (flow_numbered number s.flows) _ _ (find_stands (is_flow number) s.flows)
    (λ k there. follows_refused (Remove number) s (first_refusal (remove_refusals (is_parent_kept s k.flow) k.flow)) _ sound (removed_leads place e s k sound there))
    (keeps sound refl refl refl)
call_follows limits place e Shutdown s sound = keeps sound refl refl refl
call_follows limits place e (Look number) s sound = keeps sound refl refl refl
call_follows limits place e Drain s sound = keeps sound refl refl refl

step_follows : (limits : Limits) (place : ℕ) (s : State) (entry : Entry) → IsSound s → Follows entry.call s (step limits place s entry)
step_follows limits place s entry sound =
    follows_if entry.call s entry.starved _ _ (keeps sound refl refl refl) (call_follows limits place (max s.last entry.moment) entry.call s sound)

pub step_sound : (limits : Limits) (place : ℕ) (s : State) (entry : Entry) → IsSound s → IsSound (step limits place s entry).state
step_sound limits place s entry sound = (step_follows limits place s entry sound).sound

pub step_later : (limits : Limits) (place : ℕ) (s : State) (entry : Entry) → IsSound s → IsLater s (step limits place s entry).state
step_later limits place s entry sound = (step_follows limits place s entry sound).later

-- ---- histories

-- only a poll hands out
polls : (e : ℕ) (call : Call) (s : State) (task : TaskNo) → handed_by e call s ≡ Some task → (name : List ℕ) × (worker : List ℕ) × (call ≡ Poll name worker)
polls e (Poll name worker) s task h = (name, worker, refl)
polls e (PutTaskDefs defs) s task h = cc
polls e (UpdateTaskDef def) s task h = cc
polls e TaskDefs s task h = cc
polls e (TaskDefNamed name) s task h = cc
polls e (DropTaskDef name) s task h = cc
polls e (AddFlowDef def) s task h = cc
polls e (PutFlowDefs defs) s task h = cc
polls e FlowDefs s task h = cc
polls e (FlowDefNamed name version) s task h = cc
polls e (DropFlowDef name version) s task h = cc
polls e (Start name version input correlation) s task h = cc
polls e (GetFlow number tasks) s task h = cc
polls e (Running name version) s task h = cc
polls e (GetTask number) s task h = cc
polls e (Update wanted number outcome) s task h = cc
polls e (Decide number) s task h = cc
polls e Sweep s task h = cc
polls e (Operate number operation) s task h = cc
polls e (Remove number) s task h = cc
polls e Shutdown s task h = cc
polls e (Look number) s task h = cc
polls e Drain s task h = cc

-- what a poll hands out has waited, and waits no more
poll_hands : (limits : Limits) (place e : ℕ) (name worker : List ℕ) (s : State) (task : TaskNo) → IsSound s → handed_by e (Poll name worker) s ≡ Some task
    → (0 < count_all false task s.flows) × IsOut task (call_made limits place e (Poll name worker) s).state
unfolding poll
poll_hands limits place e name worker s task sound handed = by_found (next_waiting name e s.flows) (next_waits name e s.flows) handed where
  by_found : (o : Option Waiting) → Held (IsWaiting s.flows) o → option_map (λ w. w.attempt.number) o ≡ Some task
      → (0 < count_all false task s.flows) × IsOut task (option_map_or (λ w. hand_over place e name worker w s) o (stepped s Nothing)).state
  by_found None held is = cc
  by_found (Some w) held is =
      let same : w.attempt.number ≡ task = cc in
      let there = counted_in false w.attempt.number (record { flow = w.flow; revision = held.revision }) s.flows held.stands in
      let waits = held.waits in
      subst (λ (n : TaskNo). (0 < count_all false n s.flows) × IsOut n (hand_over place e name worker w s).state) same
      (omega (arith, there, waits), handed_is_out place e name worker s sound w held)

call_hands : (limits : Limits) (place e : ℕ) (call : Call) (s : State) (task : TaskNo) → IsSound s → handed_by e call s ≡ Some task
    → (0 < count_all false task s.flows) × IsOut task (call_made limits place e call s).state
call_hands limits place e call s task sound handed =
    let is = polls e call s task handed in
    subst (λ (c : Call). (0 < count_all false task s.flows) × IsOut task (call_made limits place e c s).state) (sym is.2)
    (poll_hands limits place e is.0 is.1 s task sound (ap (λ (c : Call). handed_by e c s) (sym is.2) ∙ handed))

hands_out : (limits : Limits) (place : ℕ) (s : State) (entry : Entry) (task : TaskNo) → IsSound s → HandsOut s entry task
    → (0 < count_all false task s.flows) × IsOut task (step limits place s entry).state
hands_out limits place s entry task sound h = rw h.fed (call_hands limits place (max s.last entry.moment) entry.call s task sound h.handed)

told_before : (limits : Limits) (before : ℕ) (s : State) (between : List Entry) (second : Entry) (task : TaskNo) → IsSound s → IsOut task s → All (λ (x : Entry). IsProper x.call) between
    → HandsOut (state_from limits before s between) second task → is_told_on limits before s between task ≡ true
told_before limits before s [] second task sound out proper handed =
    let waits = (hands_out limits before s second task sound handed).0 in
    let none = out.waits in
    let no : ⊥ = omega (arith, waits, none) in
    absurd no
told_before limits before s (x ∷ rest) second task sound out proper handed =
    by_test (tells_on task x.call && is_accepted (step limits (before + 1) s x).reply) refl
    (λ next_sound next_out. told_before limits (before + 1) (step limits (before + 1) s x).state rest second task next_sound next_out (All-tail (λ (y : Entry). IsProper y.call) x rest proper) handed)
  where
    by_test : (b : Bool) → (tells_on task x.call && is_accepted (step limits (before + 1) s x).reply) ≡ b
        → (IsSound (step limits (before + 1) s x).state → IsOut task (step limits (before + 1) s x).state → is_told_on limits (before + 1) (step limits (before + 1) s x).state rest task ≡ true)
        → (b || is_told_on limits (before + 1) (step limits (before + 1) s x).state rest task) ≡ true
    by_test true is on = refl
    by_test false is on =
        let follows = step_follows limits (before + 1) s x sound in
        on follows.sound (follows.out task (All-head (λ (y : Entry). IsProper y.call) x rest proper, is) out)

pub handed_again : (limits : Limits) (before : ℕ) (s : State) (first second : Entry) (between : List Entry) (task : TaskNo) → IsSound s → All (λ (x : Entry). IsProper x.call) between
    → HandsOut s first task → HandsOut (state_from limits before s (first ∷ between)) second task
    → is_told_on limits (before + 1) (step limits (before + 1) s first).state between task ≡ true
handed_again limits before s first second between task sound proper handed again =
    let follows = step_follows limits (before + 1) s first sound in
    told_before limits (before + 1) (step limits (before + 1) s first).state between second task follows.sound (hands_out limits (before + 1) s first task sound handed).1 proper again
