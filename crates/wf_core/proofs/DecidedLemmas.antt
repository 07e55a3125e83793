-- What a decision of a flow makes of the state.
use Rattle.std.proofs.Common.{◌≡◌, ◌∙◌, ℕ, ◌+◌, ◌≤◌, ◌==◌, Bool, true, false, ◌&&◌, ◌||◌, if◌then◌else◌, List, [], ◌∷◌, ◌++◌, map, filter, length, Option, None, Some, refl, sym, ap, arith}
use Rattle.std.proofs.lemmas.Bool.Decides.{nat_tests}
use Rattle.std.proofs.lemmas.List.{length-append, length-map, map-append}
use Rattle.std.specs.Option.{option_map_or}
use Rattle.wf_doc.specs.declared.doc.Doc.{Doc}
use Rattle.wf_names.specs.declared.ids.FlowNo.{FlowNo}
use Rattle.wf_names.specs.declared.ids.TaskNo.{TaskNo}
use Rattle.wf_names.specs.declared.ids.IdKind.TheVariants as kind
use Rattle.wf_wire.specs.declared.limits.Limits.{Limits}
use Rattle.wf_machine.specs.declared.calling.Reply.TheVariants.{Id}
use Rattle.wf_machine.specs.declared.definition.FlowDef.{FlowDef}
use Rattle.wf_machine.specs.State.{Attempt, Flow, Kept, State, new_flow}
use Rattle.wf_machine.specs.Flows.{ends_now, flow_numbered, has_numbered, has_open, is_concerned, is_flow, loses_parent, new_kept, revised, stops}
use Rattle.wf_flow.specs.Room.{FlowRoom}
use Rattle.wf_rules.specs.Acts.{Turn}
use Rattle.wf_rules.specs.Plans.{turn_at}
use Rattle.wf_rules.specs.Rules.{decide}
use Rattle.wf_rules.specs.Sight.{Scene, child_state, is_child_of, scene_in}
use Rattle.wf_turn.specs.Growing.{IsLaterTurn}
use Rattle.wf_steps.specs.Calls.{decided, started, stepped, with_decided}
use Rattle.wf_kept.specs.Flows.{flow_changed, flow_number}
use Rattle.wf_kept.specs.Rising.{RisesTo}
use Rattle.wf_kept.proofs.SearchLemmas.{rises_range}
use Rattle.wf_core.specs.declared.change.Decided.{Decided}
use Rattle.wf_core.specs.declared.change.Touched.TheVariants.{NewFlow, Flow as OldFlow}
use Rattle.wf_core.specs.Changes.{started_at, touched}
use Rattle.wf_core.specs.Grown.{IsTold}

-- ---- what was started

started_map : (place : ℕ) (xs : List FlowRoom) → started_at place xs ≡ map (new_kept place) (map (λ (f : FlowRoom). f.flow) xs)
started_map place [] = refl
started_map place (x ∷ xs) = ap (λ ks. new_kept place x.flow ∷ ks) (started_map place xs)

pub told_started : (place : ℕ) (turn : Turn) (d : Decided) → IsTold turn d → started_at place d.started.items ≡ map (new_kept place) turn.children
told_started place turn d told = started_map place d.started.items ∙ ap (map (new_kept place)) told.started

-- the number that comes next, where a flow has started none before
pub told_next : (t turn : Turn) (d : Decided) → t.children ≡ [] → IsLaterTurn t turn → IsTold turn d → turn.next_flow ≡ t.next_flow + length d.started.items
told_next t turn d none later told =
    let more = later.children in
    let all : turn.children ≡ more.more = more.is ∙ ap (λ fs. fs ++ more.more) none in
    let count : length d.started.items ≡ length more.more = sym (length-map d.started.items (λ (f : FlowRoom). f.flow)) ∙ ap length (told.started ∙ all) in
    more.next_flow ∙ ap (λ n. t.next_flow + n) (sym count)

-- ---- a kept flow is decided

pub decided_by : (limits : Limits) (place e : ℕ) (old : Kept) (now : Flow) (s : State) (turn : Turn) (d : Decided) → flow_numbered now.number s.flows ≡ Some old
    → turn ≡ decided limits e now s → IsLaterTurn (turn_at now (record { flow = s.next_flow; task = s.next_task })) turn → IsTold turn d
    → touched place e (OldFlow d None) s ≡ with_decided limits place e old.flow now s
decided_by limits place e old now s turn d found is later told =
    let after : ℕ → ℕ → List Kept → State = λ next_flow next_task flows. record s { last = e; next_flow = next_flow; next_task = next_task; flows = flows } in
    let changed : flow_changed place d.flow.flow s.flows ≡ map (revised place old.flow turn.flow) s.flows =
    ap (λ (f : Flow). flow_changed place f s.flows) told.flow
    ∙ ap (λ n. option_map_or (λ (k : Kept). map (revised place k.flow turn.flow) s.flows) (flow_numbered n s.flows) s.flows) later.number
    ∙ ap (λ o. option_map_or (λ (k : Kept). map (revised place k.flow turn.flow) s.flows) o s.flows) found in
    let flows : flow_changed place d.flow.flow s.flows ++ started_at place d.started.items ≡ map (revised place old.flow turn.flow) s.flows ++ map (new_kept place) turn.children =
    ap (λ ks. ks ++ started_at place d.started.items) changed ∙ ap (λ ks. map (revised place old.flow turn.flow) s.flows ++ ks) (told_started place turn d told) in
    let next = sym (told_next (turn_at now (record { flow = s.next_flow; task = s.next_task })) turn d refl later told) in
    ap (λ n. after n d.next_task (flow_changed place d.flow.flow s.flows ++ started_at place d.started.items)) next
    ∙ ap (λ n. after turn.next_flow n (flow_changed place d.flow.flow s.flows ++ started_at place d.started.items)) told.next_task
    ∙ ap (after turn.next_flow turn.next_task) flows
    ∙ ap (λ (t : Turn). after t.next_flow t.next_task (map (revised place old.flow t.flow) s.flows ++ map (new_kept place) t.children)) is

-- ---- a new flow is decided

children_more : (number : FlowNo) (ks : List Kept) (k : Kept) → k.flow.parent ≡ None → map child_state (filter (is_child_of number) (ks ++ k ∷ [])) ≡ map child_state (filter (is_child_of number) ks)
children_more number [] k none = ap (λ o. map child_state (if option_map_or (λ (parent : FlowNo × TaskNo). parent.0.0 == number.0) o false then k ∷ [] else [])) none
children_more number (x ∷ ks) k none = by_test (is_child_of number x) (children_more number ks k none) where
  by_test : (b : Bool) → map child_state (filter (is_child_of number) (ks ++ k ∷ [])) ≡ map child_state (filter (is_child_of number) ks)
      → map child_state (if b then x ∷ filter (is_child_of number) (ks ++ k ∷ []) else filter (is_child_of number) (ks ++ k ∷ []))
      ≡ map child_state (if b then x ∷ filter (is_child_of number) ks else filter (is_child_of number) ks)
  by_test true rest = ap (λ cs. child_state x ∷ cs) rest
  by_test false rest = rest

module _ (place : ℕ) (flow now : Flow) (parent : now.parent ≡ None) (none : flow.attempts ≡ []) where
  -- the change of a flow that had neither a parent nor an attempt concerns no other
  alone : (f : Flow) → is_concerned flow now f ≡ false
  alone f =
      ap (λ o. (ends_now flow now && option_map_or (λ (p : FlowNo × TaskNo). p.0.0 == f.number.0) o false) || option_map_or (loses_parent flow now) f.parent false) parent
      ∙ ap (λ b. b || option_map_or (loses_parent flow now) f.parent false) (and_false (ends_now flow now))
      ∙ by_parent f.parent
    where
      and_false : (b : Bool) → (b && false) ≡ false
      and_false true = refl
      and_false false = refl

      by_parent : (o : Option (FlowNo × TaskNo)) → option_map_or (loses_parent flow now) o false ≡ false
      by_parent None = refl
      by_parent (Some p) =
          let before : List Attempt → Flow = λ xs. record flow { attempts = xs } in
          let is_parent = p.0.0 == now.number.0 in
          ap (λ xs. is_parent && (stops (has_open p.1) (before xs) now || stops (has_numbered p.1) (before xs) now)) none ∙ and_false is_parent

  others_stay : (low high : ℕ) (ks : List Kept) → RisesTo flow_number low high ks → high ≤ now.number.0 → map (revised place flow now) ks ≡ ks
  others_stay low high [] rising above = refl
  others_stay low high (k ∷ ks) rising above =
      let range = rises_range flow_number (flow_number k + 1) high ks rising.1 in
      let other : is_flow now.number k ≡ false = grind (arith, nat_tests) in
      let stays : revised place flow now k ≡ k =
      ap (λ b. if b then new_kept place now else if is_concerned flow now k.flow then record k { revision = place } else k) other
      ∙ ap (λ b. if b then record k { revision = place } else k) (alone k.flow) in
      ap (λ x. x ∷ map (revised place flow now) ks) stays ∙ ap (λ xs. k ∷ xs) (others_stay (flow_number k + 1) high ks rising.1 above)

  pub all_with_new : (high : ℕ) (ks : List Kept) → RisesTo flow_number 1 high ks → high ≡ now.number.0 → now.number ≡ flow.number
      → map (revised place flow now) (ks ++ new_kept place flow ∷ []) ≡ ks ++ new_kept place now ∷ []
  all_with_new high ks rising above same =
      let mine : is_flow now.number (new_kept place flow) ≡ true = let n = ap (λ (x : FlowNo). x.0) same in grind (arith, nat_tests) in
      map-append (revised place flow now) ks (new_kept place flow ∷ [])
      ∙ ap (λ xs. xs ++ revised place flow now (new_kept place flow) ∷ []) (others_stay 1 high ks rising (omega (arith, above)))
      ∙ ap (λ b. ks ++ (if b then new_kept place now else if is_concerned flow now flow then record (new_kept place flow) { revision = place } else new_kept place flow) ∷ []) mine

pub started_by : (limits : Limits) (place e : ℕ) (def : FlowDef) (input : Doc) (correlation : List ℕ) (s : State) (turn : Turn) (d : Decided)
    → RisesTo flow_number 1 s.next_flow s.flows
    → turn ≡ decide limits (scene_in s (new_flow (record { 0 = s.next_flow }) def input correlation None 0 e)) (length s.flows + 1) e
    (turn_at (new_flow (record { 0 = s.next_flow }) def input correlation None 0 e) (record { flow = s.next_flow + 1; task = s.next_task }))
    → IsLaterTurn (turn_at (new_flow (record { 0 = s.next_flow }) def input correlation None 0 e) (record { flow = s.next_flow + 1; task = s.next_task })) turn
    → IsTold turn d
    → stepped (touched place e (NewFlow d) s) (Id kind.Flow s.next_flow) ≡ started limits place e def input correlation s
started_by limits place e def input correlation s turn d rising is later told =
    let flow = new_flow (record { 0 = s.next_flow }) def input correlation None 0 e in
    let start = turn_at flow (record { flow = s.next_flow + 1; task = s.next_task }) in
    let there : State = record s { next_flow = s.next_flow + 1; flows = s.flows ++ new_kept place flow ∷ [] } in
    let after : ℕ → ℕ → List Kept → State = λ next_flow next_task flows. record s { last = e; next_flow = next_flow; next_task = next_task; flows = flows } in
    let scene : scene_in there flow ≡ scene_in s flow =
    ap (λ cs. record { mark = s.mark; task_defs = s.task_defs; flow_defs = s.flow_defs; orphan = false; children = cs }) (children_more flow.number s.flows (new_kept place flow) refl) in
    let same : turn ≡ decided limits e flow there =
    is ∙ ap (λ (x : Scene). decide limits x (length s.flows + 1) e start) (sym scene)
    ∙ ap (λ n. decide limits (scene_in there flow) n e start) (sym (length-append s.flows (new_kept place flow ∷ []))) in
    let kept : (s.flows ++ new_kept place d.flow.flow ∷ []) ++ started_at place d.started.items
    ≡ map (revised place flow turn.flow) (s.flows ++ new_kept place flow ∷ []) ++ map (new_kept place) turn.children =
    ap (λ f. (s.flows ++ new_kept place f ∷ []) ++ started_at place d.started.items) told.flow
    ∙ ap (λ ks. ks ++ started_at place d.started.items) (sym (all_with_new place flow turn.flow later.parent refl s.next_flow s.flows rising (sym (ap (λ (x : FlowNo). x.0) later.number)) later.number))
    ∙ ap (λ ks. map (revised place flow turn.flow) (s.flows ++ new_kept place flow ∷ []) ++ ks) (told_started place turn d told) in
    let next = sym (told_next start turn d refl later told) in
    ap (λ x. stepped x (Id kind.Flow s.next_flow))
    (ap (λ n. after n d.next_task ((s.flows ++ new_kept place d.flow.flow ∷ []) ++ started_at place d.started.items)) next
    ∙ ap (λ n. after turn.next_flow n ((s.flows ++ new_kept place d.flow.flow ∷ []) ++ started_at place d.started.items)) told.next_task
    ∙ ap (after turn.next_flow turn.next_task) kept
    ∙ ap (λ (t : Turn). after t.next_flow t.next_task (map (revised place flow t.flow) (s.flows ++ new_kept place flow ∷ []) ++ map (new_kept place) t.children)) same)
