-- What a prepared change makes of the state is what its call makes.
use Rattle.std.proofs.Common.{◌≡◌, ℕ, ◌+◌, ◌<◌, ◌≤◌, ◌^◌, Bool, true, false, not, if◌then◌else◌, List, [], ◌∷◌, ◌++◌, map, length, Option, Some, refl, sym, ap, subst, ◌∙◌, arith}
use Rattle.std.proofs.lemmas.Bool.Decides.{nat_tests}
use Rattle.std.specs.Option.{is_some, option_map_or}
use Rattle.wf_names.specs.declared.ids.FlowNo.{FlowNo}
use Rattle.wf_names.specs.declared.ids.TaskNo.{TaskNo}
use Rattle.wf_names.specs.declared.ids.IdKind.TheVariants as kind
use Rattle.wf_names.specs.declared.refusals.Refusal.TheVariants.{NotFound, NotUpdatable}
use Rattle.wf_names.specs.TaskStatus.{task_is_open}
use Rattle.wf_wire.specs.declared.limits.Limits.{Limits}
use Rattle.wf_machine.specs.declared.calling.Reply.{Reply}
use Rattle.wf_machine.specs.declared.calling.Reply.TheVariants.{Accepted, Id, Json, Nothing, Refused}
use Rattle.wf_machine.specs.declared.calling.TaskResult.{TaskResult}
use Rattle.wf_machine.specs.State.{Attempt, Flow, Kept, State, RisingTo, attempt_numbered, is_numbered, with_attempt}
use Rattle.wf_steps.specs.Calls.{Stepped, decide_flow, flow_updated, hand_over, is_settled, is_wanted, needs, poll, settle, sweep, refused, settled_with, stepped, task_updated, update, update_of, with_decided}
use Rattle.wf_machine.specs.Flows.{flow_numbered, flow_of_task, is_flow, revised}
use Rattle.std.specs.List.{All}
use Rattle.wf_kept.specs.Flows.{AreAttemptsBelow, flow_changed, flow_number}
use Rattle.wf_kept.specs.Rising.{RisesTo}
use Rattle.wf_kept.proofs.SearchLemmas.{found_itself}
use Rattle.wf_core.specs.Grown.{IsChanged}
use Rattle.wf_core.proofs.FoundLemmas.{found_passes, kept_changed}
use Rattle.wf_core.specs.declared.change.Decided.{Decided}
use Rattle.wf_core.specs.declared.change.Touched.TheVariants.{Flow as OldFlow}
use Rattle.wf_core.specs.Changes.{started_at, touched}
use Rattle.std.proofs.lemmas.List.{append-nil}
use Rattle.wf_machine.specs.Documents.{task_document}
use Rattle.wf_machine.specs.Queues.{Waiting, next_waiting, with_hand}
use Rattle.wf_machine.specs.Records.{is_kind_at}
use Rattle.wf_machine.specs.Tasks.{handed_out, takes_update}
use Rattle.wf_kept.proofs.IndexLemmas.{numbered_below}
use Rattle.wf_core.proofs.GrowLemmas.{numbered_with, with_result}

-- ---- numbers

-- an attempt that was found has the number
pub number_found : (task : TaskNo) (xs : List Attempt) (a : Attempt) → attempt_numbered task xs ≡ Some a → a.number.0 ≡ task.0
number_found task [] a there = absurd cc
number_found task (x ∷ xs) a there = by_test (is_numbered task x) refl there (number_found task xs a) where
  by_test : (b : Bool) → is_numbered task x ≡ b → (if b then Some x else attempt_numbered task xs) ≡ Some a
      → (attempt_numbered task xs ≡ Some a → a.number.0 ≡ task.0) → a.number.0 ≡ task.0
  by_test true mine is on = let same : x ≡ a = cc in subst (λ (y : Attempt). y.number.0 ≡ task.0) same (grind (arith, nat_tests))
  by_test false other is on = on is

-- and that number is one that has a text
pub number_fits : (next : ℕ) (task : TaskNo) (xs : List Attempt) (a : Attempt) → RisingTo 1 next xs → next ≤ 2 ^ 56 → attempt_numbered task xs ≡ Some a → task.0 < 2 ^ 56
number_fits next task xs a rising limit there =
    let below = numbered_below 1 next task xs rising (ap is_some there) in
    omega (arith, below, limit)

-- ---- updates

-- an attempt that has ended keeps what it has
pub update_ended : (limits : Limits) (place e : ℕ) (wanted : Option FlowNo) (task : TaskNo) (outcome : TaskResult) (s : State) (k : Kept) (a : Attempt)
    → flow_of_task task s.flows ≡ Some k → attempt_numbered task k.flow.attempts ≡ Some a → task_is_open a.status ≡ false → is_wanted wanted k.flow.number ≡ true
    → update limits place e wanted task outcome s ≡ stepped s (Id kind.Task a.number.0)
unfolding update
update_ended limits place e wanted task outcome s k a found there ended own =
    ap (λ o. update_of limits place e wanted task outcome o s) found
    ∙ ap (λ b. if b then flow_updated limits place e task outcome k.flow s else refused NotFound s) own
    ∙ ap (λ o. option_map_or (λ x. task_updated limits place e outcome k.flow x s) o (refused NotFound s)) there
    ∙ ap (λ b. if not b then stepped s (Id kind.Task a.number.0) else if not (is_kind_at takes_update k.flow.def a.node) then refused NotUpdatable s else settled_with limits place e outcome k.flow a s) ended

pub updated_by : (limits : Limits) (place e : ℕ) (task : TaskNo) (outcome : TaskResult) (f : Flow) (a : Attempt) (s : State)
    → attempt_numbered task f.attempts ≡ Some a → task_is_open a.status ≡ true → is_kind_at takes_update f.def a.node ≡ true
    → stepped (with_decided limits place e f (with_result e outcome f a) s) (Id kind.Task task.0) ≡ flow_updated limits place e task outcome f s
updated_by limits place e task outcome f a s there is_open takes =
    ap (λ n. stepped (with_decided limits place e f (with_result e outcome f a) s) (Id kind.Task n)) (sym (number_found task f.attempts a there))
    ∙ sym (ap (λ b. if not b then refused NotUpdatable s else settled_with limits place e outcome f a s) takes)
    ∙ sym (ap (λ b. if not b then stepped s (Id kind.Task a.number.0) else if not (is_kind_at takes_update f.def a.node) then refused NotUpdatable s else settled_with limits place e outcome f a s) is_open)
    ∙ sym (ap (λ o. option_map_or (λ x. task_updated limits place e outcome f x s) o (refused NotFound s)) there)

-- ---- hand-outs

pub polled : (place e : ℕ) (name worker : List ℕ) (s : State) (w : Waiting) → next_waiting name e s.flows ≡ Some w
    → poll place e name worker s ≡ hand_over place e name worker w s
unfolding poll
polled place e name worker s w is = ap (λ o. option_map_or (λ v. hand_over place e name worker v s) o (stepped s Nothing)) is

abbrev pub with_hand_out : ℕ → List ℕ → Flow → Attempt → Flow
with_hand_out e worker f a = record f { attempts = with_attempt (handed_out e worker a) f.attempts }

abbrev pub reply_of_task : ℕ → TaskNo → Flow → Reply
reply_of_task mark task f = option_map_or (λ a. Json (task_document mark f a)) (attempt_numbered task f.attempts) (Refused NotFound)

pub handed_by : (place e : ℕ) (name worker : List ℕ) (task : TaskNo) (f : Flow) (a : Attempt) (s : State) (d : Decided) (mark : ℕ) (reply : Reply) (old : Kept)
    → attempt_numbered task f.attempts ≡ Some a → d.flow.flow ≡ with_hand_out e worker f a → d.started.items ≡ [] → d.next_task ≡ s.next_task → mark ≡ s.mark
    → reply ≡ reply_of_task mark task d.flow.flow → flow_numbered f.number s.flows ≡ Some old → old.flow ≡ f
    → stepped (touched place e (OldFlow d (Some name)) s) reply ≡ hand_over place e name worker (record { flow = f; attempt = a }) s
handed_by place e name worker task f a s d mark reply old there is none same same_mark told found kept =
    let given = handed_out e worker a in
    let new = with_hand_out e worker f a in
    let after : ℕ → ℕ → List Kept → Reply → Stepped = λ n m ks r. stepped (record s { last = e; next_flow = n; next_task = m; flows = ks; hands = with_hand name e s.hands }) r in
    let there_now : attempt_numbered task new.attempts ≡ Some given = numbered_with task a given f.attempts there (number_found task f.attempts a there) in
    let document : reply ≡ Json (task_document s.mark new given) =
    told ∙ ap (λ n. reply_of_task n task d.flow.flow) same_mark ∙ ap (reply_of_task s.mark task) is
    ∙ ap (λ o. option_map_or (λ x. Json (task_document s.mark new x)) o (Refused NotFound)) there_now in
    let flows : flow_changed place d.flow.flow s.flows ++ started_at place d.started.items ≡ map (revised place f new) s.flows =
    ap (λ xs. flow_changed place d.flow.flow s.flows ++ started_at place xs) none ∙ append-nil (flow_changed place d.flow.flow s.flows)
    ∙ ap (λ x. flow_changed place x s.flows) is ∙ ap (λ o. option_map_or (λ (k : Kept). map (revised place k.flow new) s.flows) o s.flows) found
    ∙ ap (λ x. map (revised place x new) s.flows) kept in
    let count : length d.started.items ≡ 0 = ap length none in
    let zero : s.next_flow + length d.started.items ≡ s.next_flow = omega (arith, count) in
    ap (λ n. after n d.next_task (flow_changed place d.flow.flow s.flows ++ started_at place d.started.items) reply) zero
    ∙ ap (λ n. after s.next_flow n (flow_changed place d.flow.flow s.flows ++ started_at place d.started.items) reply) same
    ∙ ap (λ ks. after s.next_flow s.next_task ks reply) flows
    ∙ ap (after s.next_flow s.next_task (map (revised place f new) s.flows)) document

-- ---- decisions

pub decided_kept : (limits : Limits) (place e : ℕ) (number : FlowNo) (s : State) (k : Kept) (f : Flow) → flow_numbered number s.flows ≡ Some k → f ≡ k.flow
    → is_settled limits e s k.flow ≡ false → stepped (with_decided limits place e k.flow f s) Accepted ≡ decide_flow limits place e number s
unfolding decide_flow
decided_kept limits place e number s k f found same settled =
    ap (λ g. stepped (with_decided limits place e k.flow g s) Accepted) same
    ∙ sym (ap (λ b. stepped (if b then s else with_decided limits place e k.flow k.flow s) Accepted) settled)
    ∙ sym (ap (λ o. option_map_or (λ (x : Kept). stepped (settle limits place e x.flow s) Accepted) o (refused NotFound s)) found)

pub swept_kept : (limits : Limits) (place e : ℕ) (s : State) (k : Kept) (f : Flow) → needs limits e s ≡ Some k → f ≡ k.flow
    → stepped (with_decided limits place e k.flow f s) (Id kind.Flow k.flow.number.0) ≡ sweep limits place e s
unfolding needs sweep
swept_kept limits place e s k f found same =
    let settled : is_settled limits e s k.flow ≡ false = not_true (is_settled limits e s k.flow) (found_passes (λ x. not (is_settled limits e s x.flow)) s.flows k found) in
    ap (λ g. stepped (with_decided limits place e k.flow g s) (Id kind.Flow k.flow.number.0)) same
    ∙ sym (ap (λ b. stepped (if b then s else with_decided limits place e k.flow k.flow s) (Id kind.Flow k.flow.number.0)) settled)
    ∙ sym (ap (λ o. option_map_or (λ (x : Kept). stepped (settle limits place e x.flow s) (Id kind.Flow x.flow.number.0)) o (stepped s Nothing)) found)
  where
    not_true : (b : Bool) → not b ≡ true → b ≡ false
    not_true true h = cc
    not_true false h = refl

pub needs_changed : (limits : Limits) (e : ℕ) (s : State) (k : Kept) (f : Flow) → RisesTo flow_number 1 s.next_flow s.flows → All (AreAttemptsBelow s.next_task) s.flows
    → needs limits e s ≡ Some k → f ≡ k.flow → IsChanged f s
unfolding needs
needs_changed limits e s k f rises below found same = kept_changed s (λ x. not (is_settled limits e s x.flow)) k f rises below found same

-- and it is the one of its number
pub needs_itself : (limits : Limits) (e : ℕ) (s : State) (k : Kept) → RisesTo flow_number 1 s.next_flow s.flows → needs limits e s ≡ Some k → flow_numbered k.flow.number s.flows ≡ Some k
unfolding needs
needs_itself limits e s k rises found = found_itself flow_number 1 s.next_flow (λ x. not (is_settled limits e s x.flow)) s.flows k rises found

pub number_itself : (number : FlowNo) (s : State) (k : Kept) → RisesTo flow_number 1 s.next_flow s.flows → flow_numbered number s.flows ≡ Some k → flow_numbered k.flow.number s.flows ≡ Some k
number_itself number s k rises found = found_itself flow_number 1 s.next_flow (is_flow number) s.flows k rises found
