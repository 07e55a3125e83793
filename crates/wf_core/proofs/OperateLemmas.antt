-- What operators do to a kept flow: as steps of the machine, and as what is kept.
use Rattle.std.proofs.Common.{◌≡◌, ℕ, ◌+◌, ◌<◌, ◌≤◌, ◌^◌, Bool, true, false, if◌then◌else◌, List, [], ◌∷◌, ◌++◌, length, map, Option, None, Some, refl, sym, ap, ◌∙◌, subst, arith}
use Rattle.std.proofs.lemmas.List.{append-nil}
use Rattle.std.specs.Option.{option_map_or}
use Rattle.wf_names.specs.declared.ids.FlowNo.{FlowNo}
use Rattle.wf_names.specs.declared.ids.TaskNo.{TaskNo}
use Rattle.wf_names.specs.declared.refusals.Refusal.{Refusal}
use Rattle.wf_names.specs.declared.refusals.Refusal.TheVariants.{NotFound}
use Rattle.wf_wire.specs.declared.limits.Limits.{Limits}
use Rattle.wf_machine.specs.declared.calling.Reply.{Reply}
use Rattle.wf_machine.specs.declared.calling.Reply.TheVariants.{Accepted}
use Rattle.wf_machine.specs.declared.definition.Node.{Node}
use Rattle.wf_machine.specs.Flows.{flow_numbered, removed, revised}
use Rattle.wf_machine.specs.Operators.{first_refusal, is_from, is_redone, node_to_rerun, node_to_skip, remove_refusals, rerun_from, skipped_at, superseded, superseded_where}
use Rattle.wf_machine.specs.Replies.{IsPrintable}
use Rattle.wf_machine.specs.State.{Attempt, Flow, Kept, State, RisingTo, canceled}
use Rattle.wf_machine.proofs.OperatorLemmas.{rising_rerun, rising_retried, rising_skipped, rising_terminated, skip_numbered}
use Rattle.wf_machine.proofs.RecordLemmas.{canceled_number, rising_length}
use Rattle.wf_steps.specs.declared.operation.Operation.{Operation}
use Rattle.wf_steps.specs.declared.operation.Operation.TheVariants.{Terminate, Pause, Resume, Restart, Retry, Rerun, Skip}
use Rattle.wf_steps.specs.Calls.{Stepped, flow_operated, flow_removed, is_parent_kept, next_after, operate, operated, operation_refusals, operation_reply, or_refused, refused, remove, stepped, stops_flow, with_decided, with_operated, with_undecided}
use Rattle.wf_kept.specs.Flows.{IsGrown, attempt_number, flow_changed}
use Rattle.wf_core.specs.declared.change.Decided.{Decided}
use Rattle.wf_core.specs.declared.change.Touched.TheVariants.{NoFlow, Flow as OldFlow}
use Rattle.wf_core.specs.Changes.{started_at, touched}
use Rattle.wf_core.specs.Grown.{HasGrown, IsChanged, IsCopied, IsEmptied}
use Rattle.wf_core.specs.Operations.{answers_id, begins_anew, reply_of}
use Rattle.wf_core.proofs.GrowLemmas.{grown_none, grown_same}

-- ---- the step

pub operate_found : (limits : Limits) (place e : ℕ) (number : FlowNo) (operation : Operation) (s : State) (k : Kept) (f : Flow) → flow_numbered number s.flows ≡ Some k → f ≡ k.flow
    → flow_operated limits place e operation s f ≡ operate limits place e number operation s
unfolding operate
operate_found limits place e number operation s k f found same =
    ap (flow_operated limits place e operation s) same
    ∙ sym (ap (λ o. option_map_or (λ (x : Kept). flow_operated limits place e operation s x.flow) o (refused NotFound s)) found)

module _ (limits : Limits) (place e : ℕ) (operation : Operation) (s : State) (f : Flow) where
  abbrev refusals : Option Refusal
  refusals = first_refusal (operation_refusals limits s.next_task operation f)

  abbrev made : Stepped
  made = stepped (with_operated limits place e operation f s) (operation_reply operation f.number)

  pub refused_by : (refusal : Refusal) → first_refusal (operation_refusals limits s.next_task operation f) ≡ Some refusal → refused refusal s ≡ flow_operated limits place e operation s f
  refused_by refusal is = sym (ap (λ o. or_refused o made s) is)

  module _ (none : first_refusal (operation_refusals limits s.next_task operation f) ≡ None) (old now : Flow) (was : old ≡ f) (same : now ≡ operated e s.next_task operation f) where
    -- the flow goes on as the operation says
    abbrev goes : Bool → Flow → Flow → State
    goes b before after = if b then with_undecided place e before after s else with_decided limits place e before after (record s { next_task = next_after operation s.next_task })

    by_stop : (b : Bool) → stops_flow operation ≡ b → stepped (goes b old now) (operation_reply operation f.number) ≡ flow_operated limits place e operation s f
    by_stop b is =
        let reply = operation_reply operation f.number in
        ap (λ g. stepped (goes b g now) reply) was ∙ ap (λ g. stepped (goes b f g) reply) same
        ∙ sym (ap (λ t. stepped (goes t f (operated e s.next_task operation f)) reply) is)
        ∙ sym (ap (λ o. or_refused o made s) none)

    pub undecided_by : stops_flow operation ≡ true → stepped (with_undecided place e old now s) (operation_reply operation f.number) ≡ flow_operated limits place e operation s f
    undecided_by stops = by_stop true stops

    pub decided_as : stops_flow operation ≡ false
        → stepped (with_decided limits place e old now (record s { next_task = next_after operation s.next_task })) (operation_reply operation f.number) ≡ flow_operated limits place e operation s f
    decided_as goes_on = by_stop false goes_on

reply_is : (operation : Operation) (number : FlowNo) → reply_of (answers_id operation) number ≡ operation_reply operation number
reply_is (Terminate reason) number = refl
reply_is Pause number = refl
reply_is Resume number = refl
reply_is Restart number = refl
reply_is Retry number = refl
reply_is (Rerun task input) number = refl
reply_is (Skip reference input output) number = refl

-- a flow that begins anew takes no number, and is decided
pub anew_next : (operation : Operation) (n : ℕ) → begins_anew operation ≡ true → (next_after operation n ≡ n) × (stops_flow operation ≡ false)
anew_next (Terminate reason) n h = cc
anew_next Pause n h = cc
anew_next Resume n h = cc
anew_next Restart n h = (refl, refl)
anew_next Retry n h = cc
anew_next (Rerun task input) n h = cc
anew_next (Skip reference input output) n h = cc

pub removed_by : (place e : ℕ) (number : FlowNo) (s : State) (k : Kept) → flow_numbered number s.flows ≡ Some k → first_refusal (remove_refusals (is_parent_kept s k.flow) k.flow) ≡ None
    → stepped (touched place e (NoFlow number) s) Accepted ≡ remove place e number s
unfolding remove
removed_by place e number s k found none =
    ap (λ o. stepped (record s { last = e; flows = option_map_or (λ (x : Kept). removed place x.flow s.flows) o s.flows }) Accepted) found
    ∙ sym
    (ap (λ o. option_map_or (λ (x : Kept). flow_removed place e s x.flow) o (refused NotFound s)) found
    ∙ ap (λ o. or_refused o (stepped (record s { last = e; flows = removed place k.flow s.flows }) Accepted) s) none)

pub removal_refused : (place e : ℕ) (number : FlowNo) (s : State) (k : Kept) (refusal : Refusal) → flow_numbered number s.flows ≡ Some k
    → first_refusal (remove_refusals (is_parent_kept s k.flow) k.flow) ≡ Some refusal → refused refusal s ≡ remove place e number s
unfolding remove
removal_refused place e number s k refusal found is =
    sym
    (ap (λ o. option_map_or (λ (x : Kept). flow_removed place e s x.flow) o (refused NotFound s)) found
    ∙ ap (λ o. or_refused o (stepped (record s { last = e; flows = removed place k.flow s.flows }) Accepted) s) is)

-- a flow is kept as it is
pub undecided_as : (place e : ℕ) (s : State) (d : Decided) (now : Flow) (old : Kept) → d.flow.flow ≡ now → d.started.items ≡ [] → d.next_task ≡ s.next_task
    → flow_numbered now.number s.flows ≡ Some old → touched place e (OldFlow d None) s ≡ with_undecided place e old.flow now s
undecided_as place e s d now old is none same found =
    let after : ℕ → ℕ → List Kept → State = λ n m ks. record s { last = e; next_flow = n; next_task = m; flows = ks } in
    let flows : flow_changed place d.flow.flow s.flows ++ started_at place d.started.items ≡ map (revised place old.flow now) s.flows =
    ap (λ xs. flow_changed place d.flow.flow s.flows ++ started_at place xs) none ∙ append-nil (flow_changed place d.flow.flow s.flows)
    ∙ ap (λ x. flow_changed place x s.flows) is ∙ ap (λ o. option_map_or (λ (k : Kept). map (revised place k.flow now) s.flows) o s.flows) found in
    let count : length d.started.items ≡ 0 = ap length none in
    let zero : s.next_flow + length d.started.items ≡ s.next_flow = omega (arith, count) in
    ap (λ n. after n d.next_task (flow_changed place d.flow.flow s.flows ++ started_at place d.started.items)) zero
    ∙ ap (λ n. after s.next_flow n (flow_changed place d.flow.flow s.flows ++ started_at place d.started.items)) same
    ∙ ap (after s.next_flow s.next_task) flows

-- ---- numbers

numbers_through : (c : Attempt → Attempt) (xs : List Attempt) → ((a : Attempt) → (c a).number ≡ a.number) → map attempt_number (map c xs) ≡ map attempt_number xs
numbers_through c [] same = refl
numbers_through c (x ∷ xs) same =
    ap (λ (n : TaskNo). n.0 ∷ map attempt_number (map c xs)) (same x) ∙ ap (λ ns. attempt_number x ∷ ns) (numbers_through c xs same)

numbers_where : (test : Attempt → List Attempt → Bool) (xs : List Attempt) → map attempt_number (superseded_where test xs) ≡ map attempt_number xs
numbers_where test [] = refl
numbers_where test (x ∷ xs) =
    ap (λ n. n ∷ map attempt_number (superseded_where test xs)) (by_test (test x xs)) ∙ ap (λ ns. attempt_number x ∷ ns) (numbers_where test xs)
  where
    by_test : (b : Bool) → attempt_number (if b then superseded x else x) ≡ attempt_number x
    by_test true = refl
    by_test false = refl

module _ (e n : ℕ) where
  operated_number : (operation : Operation) (f : Flow) → (operated e n operation f).number ≡ f.number
  operated_number (Terminate reason) f = refl
  operated_number Pause f = refl
  operated_number Resume f = refl
  operated_number Restart f = refl
  operated_number Retry f = refl
  operated_number (Rerun task input) f = by_node (node_to_rerun f.def task f.attempts) where
    by_node : (o : Option ℕ) → (option_map_or (λ node. rerun_from e input node f) o f).number ≡ f.number
    by_node None = refl
    by_node (Some node) = refl
  operated_number (Skip reference input output) f = by_node (node_to_skip f.def.nodes reference) where
    by_node : (o : Option Node) → (option_map_or (λ m. record f { attempts = f.attempts ++ skipped_at e (record { 0 = n }) input output m ∷ [] }) o f).number ≡ f.number
    by_node None = refl
    by_node (Some node) = refl

  stopped_numbers : (operation : Operation) (f : Flow) → stops_flow operation ≡ true → map attempt_number (operated e n operation f).attempts ≡ map attempt_number f.attempts
  stopped_numbers (Terminate reason) f stops = numbers_through (canceled e) f.attempts (canceled_number e)
  stopped_numbers Pause f stops = refl
  stopped_numbers Resume f stops = cc
  stopped_numbers Restart f stops = cc
  stopped_numbers Retry f stops = cc
  stopped_numbers (Rerun task input) f stops = cc
  stopped_numbers (Skip reference input output) f stops = cc

  stopped_next : (operation : Operation) → stops_flow operation ≡ true → next_after operation n ≡ n
  stopped_next (Terminate reason) stops = refl
  stopped_next Pause stops = refl
  stopped_next Resume stops = refl
  stopped_next Restart stops = refl
  stopped_next Retry stops = refl
  stopped_next (Rerun task input) stops = refl
  stopped_next (Skip reference input output) stops = cc

  operated_grown : (operation : Operation) (f : Flow) → begins_anew operation ≡ false → IsGrown f.attempts (operated e n operation f).attempts n (next_after operation n)
  operated_grown (Terminate reason) f goes_on = grown_same f.attempts (map (canceled e) f.attempts) n (numbers_through (canceled e) f.attempts (canceled_number e))
  operated_grown Pause f goes_on = grown_none f.attempts n
  operated_grown Resume f goes_on = grown_none f.attempts n
  operated_grown Restart f goes_on = cc
  operated_grown Retry f goes_on = grown_same f.attempts (superseded_where (is_redone f.def) f.attempts) n (numbers_where (is_redone f.def) f.attempts)
  operated_grown (Rerun task input) f goes_on = by_node (node_to_rerun f.def task f.attempts) where
    by_node : (o : Option ℕ) → IsGrown f.attempts (option_map_or (λ node. rerun_from e input node f) o f).attempts n n
    by_node None = grown_none f.attempts n
    by_node (Some node) = grown_same f.attempts (superseded_where (is_from node) f.attempts) n (numbers_where (is_from node) f.attempts)
  operated_grown (Skip reference input output) f goes_on = by_node (node_to_skip f.def.nodes reference) where
    by_node : (o : Option Node)
        → IsGrown f.attempts (option_map_or (λ m. record f { attempts = f.attempts ++ skipped_at e (record { 0 = n }) input output m ∷ [] }) o f).attempts n (n + 1)
    by_node None = record { first = f.attempts; more = []; is = sym (append-nil f.attempts); numbers = refl; rising = omega arith }
    by_node (Some node) =
        record { first = f.attempts; more = skipped_at e (record { 0 = n }) input output node ∷ []; is = refl; numbers = refl; rising = (omega arith, omega arith) }

  operated_rising : (operation : Operation) (f : Flow) → RisingTo 1 n f.attempts → RisingTo 1 (next_after operation n) (operated e n operation f).attempts
  operated_rising (Terminate reason) f h = rising_terminated 1 n e reason f h
  operated_rising Pause f h = h
  operated_rising Resume f h = h
  operated_rising Restart f h = let room = rising_length 1 n f.attempts h in omega (arith, room)
  operated_rising Retry f h = rising_retried 1 n e f h
  operated_rising (Rerun task input) f h = rising_rerun 1 n e task input f h
  operated_rising (Skip reference input output) f h = rising_skipped 1 n e reference input output (record { 0 = n }) f h (omega arith)

  emptied_none : (operation : Operation) (f : Flow) → begins_anew operation ≡ true → (operated e n operation f).attempts ≡ []
  emptied_none (Terminate reason) f h = cc
  emptied_none Pause f h = cc
  emptied_none Resume f h = cc
  emptied_none Restart f h = refl
  emptied_none Retry f h = cc
  emptied_none (Rerun task input) f h = cc
  emptied_none (Skip reference input output) f h = cc

-- a number is left for the attempt that a skip adds
pub next_left : (limits : Limits) (n : ℕ) (operation : Operation) (f : Flow) → n ≤ 2 ^ 56 → first_refusal (operation_refusals limits n operation f) ≡ None → next_after operation n ≤ 2 ^ 56
next_left limits n (Terminate reason) f limit none = limit
next_left limits n Pause f limit none = limit
next_left limits n Resume f limit none = limit
next_left limits n Restart f limit none = limit
next_left limits n Retry f limit none = limit
next_left limits n (Rerun task input) f limit none = limit
next_left limits n (Skip reference input output) f limit none = let below = skip_numbered limits reference n f none in omega (arith, below)

pub reply_printable : (names : Bool) (number : FlowNo) → number.0 < 2 ^ 56 → IsPrintable (reply_of names number)
reply_printable true number h = h
reply_printable false number h = tt

-- ---- what is kept

pub copied_changed : (f : Flow) (s : State) → IsCopied f s → IsChanged f s
copied_changed f s h = record { old = h.old; found = h.found; numbers = ap (λ (g : Flow). map attempt_number g.attempts) (sym h.same); rising = h.rising }

-- the operation isn't refused, and this is what it makes of the flow in that state
pub record IsMade (limits : Limits) (e : ℕ) (operation : Operation) (s : State) (f now : Flow) : Type 0 where
  pub none : first_refusal (operation_refusals limits s.next_task operation f) ≡ None
  pub same : now ≡ operated e s.next_task operation f

pub made_at : (limits inner : Limits) (e n : ℕ) (operation : Operation) (s : State) (f now : Flow) → inner ≡ limits → n ≡ s.next_task
    → first_refusal (operation_refusals inner n operation f) ≡ None → now ≡ operated e n operation f → IsMade limits e operation s f now
made_at limits inner e n operation s f now own next none same = record {
  none =
      subst (λ l. first_refusal (operation_refusals l s.next_task operation f) ≡ None) own
      (subst (λ m. first_refusal (operation_refusals inner m operation f) ≡ None) next none);
  same = subst (λ m. now ≡ operated e m operation f) next same;
}

module _ (e : ℕ) (operation : Operation) (f now : Flow) (s : State) (same : now ≡ operated e s.next_task operation f) where
  -- it is found by the number that the flow had
  pub operated_found : (k : Kept) → flow_numbered f.number s.flows ≡ Some k → flow_numbered now.number s.flows ≡ Some k
  operated_found k found =
      ap (λ (g : Flow). flow_numbered g.number s.flows) same ∙ ap (λ (n : FlowNo). flow_numbered n s.flows) (operated_number e s.next_task operation f) ∙ found

  pub stopped_changed : stops_flow operation ≡ true → IsChanged f s → IsChanged now s
  stopped_changed stops was =
      record {
        old = was.old;
        found = operated_found was.old was.found;
        numbers = ap (λ (g : Flow). map attempt_number g.attempts) same ∙ stopped_numbers e s.next_task operation f stops ∙ was.numbers;
        rising =
            subst (λ n. RisingTo 1 n now.attempts) (stopped_next e s.next_task operation stops)
            (subst (λ (g : Flow). RisingTo 1 (next_after operation s.next_task) g.attempts) (sym same) (operated_rising e s.next_task operation f was.rising));
      }

  pub operated_has_grown : begins_anew operation ≡ false → IsChanged f s → HasGrown now (next_after operation s.next_task) s
  operated_has_grown goes_on was =
      let grown = operated_grown e s.next_task operation f goes_on in
      let here : IsGrown was.old.flow.attempts (operated e s.next_task operation f).attempts s.next_task (next_after operation s.next_task) =
      record { first = grown.first; more = grown.more; is = grown.is; numbers = grown.numbers ∙ was.numbers; rising = grown.rising } in
      record {
        old = was.old;
        found = operated_found was.old was.found;
        grown = subst (λ (g : Flow). IsGrown was.old.flow.attempts g.attempts s.next_task (next_after operation s.next_task)) (sym same) here;
        rising = subst (λ (g : Flow). RisingTo 1 (next_after operation s.next_task) g.attempts) (sym same) (operated_rising e s.next_task operation f was.rising);
      }

  pub operated_emptied : begins_anew operation ≡ true → IsChanged f s → IsEmptied now s
  operated_emptied anew was =
      record { old = was.old; found = operated_found was.old was.found; none = ap (λ (g : Flow). g.attempts) same ∙ emptied_none e s.next_task operation f anew }

  -- the reply is that of the operation
  pub reply_told : (names : Bool) (number : FlowNo) (reply : Reply) → names ≡ answers_id operation → number ≡ now.number → reply ≡ reply_of names number
      → reply ≡ operation_reply operation f.number
  reply_told names number reply kind own told =
      told ∙ ap (λ b. reply_of b number) kind ∙ reply_is operation number
      ∙ ap (operation_reply operation) (own ∙ ap (λ (g : Flow). g.number) same ∙ operated_number e s.next_task operation f)
