-- A rule adds one attempt at most, so numbers never run past their end.
use Rattle.std.proofs.Common.{◌≡◌, ℕ, pos, ◌+◌, ◌^◌, ◌<◌, ◌≤◌, Bool, true, false, if◌then◌else◌, ◌&&◌, ◌||◌, nat_le, List, [], ◌∷◌, ◌++◌, map, length, Option, None, Some, codes, refl, subst, arith}
use Rattle.std.proofs.lemmas.Bool.Decides.{nat_tests}
use Rattle.std.specs.Prelude.{option_map, option_and_then}
use Rattle.std.specs.List.{list_any}
use Rattle.std.specs.Option.{option_map_or}
use Rattle.wf_doc.specs.declared.doc.Doc.{Doc}
use Rattle.wf_names.specs.declared.statuses.FlowStatus.{FlowStatus}
use Rattle.wf_wire.specs.declared.limits.Limits.{Limits}
use Rattle.wf_rules.specs.declared.acting.Act.{Act}
use Rattle.wf_rules.specs.declared.acting.Act.TheVariants.{Add, Close, Note, Forgive, Turn as TurnOn, Variables, NoteFlow, End}
use Rattle.wf_rules.specs.declared.acting.Alert.{Alert}
use Rattle.wf_rules.specs.declared.acting.Begin.TheVariants.{Over}
use Rattle.wf_rules.specs.declared.acting.Child.{Child}
use Rattle.wf_rules.specs.declared.acting.Child.TheVariants.{Nothing, Flow as NewFlow, TooLarge, Refused}
use Rattle.wf_rules.specs.declared.acting.NewAttempt.{NewAttempt}
use Rattle.wf_rules.specs.declared.acting.Outcome.{Outcome}
use Rattle.wf_rules.specs.declared.acting.Outcome.TheVariants.{Completed}
use Rattle.wf_names.specs.declared.statuses.FlowStatus.TheVariants as flow
use Rattle.wf_machine.specs.declared.definition.Cases.{Cases'}
use Rattle.wf_machine.specs.declared.definition.Node.{Node}
use Rattle.wf_machine.specs.declared.definition.NodeKind.{NodeKind, Simple, Switch, Fork', Join, Loop', SubFlow, SetVariable, Wait, Human, Terminate}
use Rattle.wf_machine.specs.declared.definition.TaskDef.{TaskDef}
use Rattle.wf_machine.specs.declared.timed.Cause.{Cause}
use Rattle.wf_machine.specs.declared.timed.Cause.TheVariants.{Poll, Response, Total, Wait as WaitDue}
use Rattle.wf_machine.specs.declared.timed.TaskPolicy.{TaskPolicy}
use Rattle.wf_machine.specs.declared.timed.TaskPolicy.TheVariants.{Retry, TimeOutWf, AlertOnly}
use Rattle.wf_machine.specs.declared.timed.Timing.{Timing}
use Rattle.wf_machine.specs.declared.walking.Next.{Next}
use Rattle.wf_machine.specs.declared.walking.Next.TheVariants.{Schedule, Join as Joins, Turn as Turns, Waits, Done as AllDone}
use Rattle.wf_machine.specs.Sight.{Seen}
use Rattle.wf_rules.specs.Sight.{Sight, Scene, sight}
use Rattle.wf_machine.specs.Marks.{next_step, node_at}
use Rattle.wf_rules.specs.Outputs.{with_key, join_output, child_output, entries_of, with_all, is_too_large, filled_in, turns_on}
use Rattle.wf_machine.specs.Registered.{task_def_named}
use Rattle.wf_rules.specs.Scheduling.{attempt_at, fails, within, adding, end_by, named_end, schedule_task, schedule_kind}
use Rattle.wf_rules.specs.Acts.{Turn, births}
use Rattle.wf_rules.specs.Rules.{flow_output, child_outcome, first_some, first_due, first_lost, last_place, timing_at, policy_of, parent_ended, ran_too_long, by_policy, past_due, retried_by, retry_of, is_optional, unretried, lost, turned_on, turn_of_loop, take_step, all_done, r0, r1, r2, r3, r4, r5, r6, first_of, rules, is_running, pick, Room, room, is_add, store_full, fitted_child, fitted, allowed, choose}
use Rattle.wf_rules.specs.Plans.{new_task, new_flow, new_tasks, new_flows}

abbrev Few : List Act → Type 0
Few acts = new_tasks acts ≤ 1

abbrev AreFew : Option (List Act) → Type 0
AreFew None = Unit {0}
AreFew (Some acts) = Few acts

few_map : {T : Type 0} (o : Option T) (f : T → List Act) → ((x : T) → Few (f x)) → AreFew (option_map f o)
few_map None f h = tt
few_map (Some x) f h = h x

few_if : (b : Bool) (xs ys : List Act) → Few xs → Few ys → Few (if b then xs else ys)
few_if true xs ys p q = p
few_if false xs ys p q = q

few_within : (limits : Limits) (docs : List Doc) (acts : List Act) → Few acts → Few (within limits docs acts)
few_within limits docs acts h = few_if (list_any (is_too_large limits) docs) _ acts (omega arith) h

few_adding : (limits : Limits) (s : Sight) (docs : List Doc) (before : List Act) (n : NewAttempt) (after : List Act) → Few (before ++ Add n ∷ after) → Few (adding limits s docs before n after)
few_adding limits s docs before n after h =
    few_if (nat_le limits.attempts (length s.attempts)) (fails (codes "attempt limit") None) _ (omega arith)
    (few_within limits (n.input ∷ n.output ∷ docs) (before ++ Add n ∷ after) h)

few_one : (limits : Limits) (s : Sight) (n : NewAttempt) → Few (adding limits s [] [] n [])
few_one limits s n = few_adding limits s [] [] n [] (omega arith)

few_close : (p : ℕ) (o : Outcome) (r : Option (List ℕ)) (out : Option Doc) → Few (Close p o r out ∷ [])
few_close p o r out = omega arith

few_turn_on : (p : ℕ) (out : Doc) (turn : ℕ) → Few (TurnOn p out turn ∷ [])
few_turn_on p out turn = omega arith

few_ended : (status : FlowStatus) (r : Option (List ℕ)) (out : Option Doc) → Few (End status r out ∷ [])
few_ended status r out = omega arith

few_variables : (v : Doc) (n : NewAttempt) → Few (Variables v ∷ Add n ∷ [])
few_variables v n = omega arith

few_policy : (p : ℕ) (alert : Alert) (r : List ℕ) (policy : TaskPolicy) → Few (by_policy p alert r policy)
few_policy p alert r Retry = omega arith
few_policy p alert r TimeOutWf = omega arith
few_policy p alert r AlertOnly = omega arith

few_past_due : (s : Sight) (p : ℕ) (c : Cause) → Few (past_due s p c)
few_past_due s p Poll = few_policy p _ _ (policy_of (timing_at p s.attempts))
few_past_due s p Response = omega arith
few_past_due s p Total = few_policy p _ _ (policy_of (timing_at p s.attempts))
few_past_due s p WaitDue = omega arith

few_lost : (limits : Limits) (s : Sight) (p : ℕ) (a : Seen) → Few (lost limits s p a)
few_lost limits s p a = by_timing (retried_by s a) where
  by_timing : (o : Option Timing) → Few (option_map_or (λ timing. adding limits s [] [] (retry_of p a timing) []) o (unretried s p a))
  by_timing None = few_if (is_optional s a.node) _ _ (omega arith) (omega arith)
  by_timing (Some timing) = few_adding limits s [] [] (retry_of p a timing) [] (omega arith)

few_end : (input : Doc) (status : Option FlowStatus) (n : NewAttempt) → Few (Add n ∷ end_by input status)
few_end input None n = omega arith
few_end input (Some status) n = omega arith

few_task : (limits : Limits) (s : Sight) (node : Node) (i : ℕ) (def : Option TaskDef) (input : Doc) → Few (schedule_task limits s node i def input)
few_task limits s node i None input = omega arith
few_task limits s node i (Some def) input = few_one limits s _

few_kind : (limits : Limits) (scene : Scene) (s : Sight) (node : Node) (i : ℕ) (kind : NodeKind) (input : Doc) → Few (schedule_kind limits scene s node i kind input)
few_kind limits scene s node i Simple input = few_task limits s node i (task_def_named node.name scene.task_defs) input
few_kind limits scene s node i (Switch (Cases' param n cases m nodes)) input = few_one limits s _
few_kind limits scene s node i (Fork' n branches) input = few_one limits s _
few_kind limits scene s node i (Join references) input = few_one limits s _
few_kind limits scene s node i (Loop' count n body) input = few_one limits s _
few_kind limits scene s node i (SubFlow name version) input = few_one limits s _
few_kind limits scene s node i SetVariable input =
    (let variables = with_all (entries_of input) s.variables in
    let n = attempt_at node i (Over Completed) input in
    few_adding limits s (variables ∷ []) (Variables variables ∷ []) n [] (few_variables variables n))
few_kind limits scene s node i Wait input = few_one limits s _
few_kind limits scene s node i Human input = few_one limits s _
few_kind limits scene s node i Terminate input =
    (let n = attempt_at node i (Over Completed) input in
    few_adding limits s [] [] n (end_by input (named_end input)) (few_end input (named_end input) n))

few_turned : (limits : Limits) (p turn : ℕ) (output : Doc) (on : Bool) → Few (turned_on limits p turn output on)
few_turned limits p turn output true =
    let more = with_key (codes "iteration") (Doc.Int (pos (turn + 1))) output in
    few_within limits (more ∷ []) (TurnOn p more (turn + 1) ∷ []) (few_turn_on p more (turn + 1))
few_turned limits p turn output false = few_within limits (output ∷ []) (Close p Completed None (Some output) ∷ []) (few_close p Completed None (Some output))

few_loop : (limits : Limits) (s : Sight) (p : ℕ) (x : Seen) (kind : NodeKind) → AreFew (turn_of_loop limits s p x kind)
few_loop limits s p x (Loop' count n body) = few_turned limits p x.turn _ (turns_on x.turn count x.input)
few_loop limits s p x Simple = tt
few_loop limits s p x (Switch cases) = tt
few_loop limits s p x (Fork' n branches) = tt
few_loop limits s p x (Join references) = tt
few_loop limits s p x (SubFlow name version) = tt
few_loop limits s p x SetVariable = tt
few_loop limits s p x Wait = tt
few_loop limits s p x Human = tt
few_loop limits s p x Terminate = tt

few_then : {T : Type 0} (o : Option T) (f : T → Option (List Act)) → ((x : T) → AreFew (f x)) → AreFew (option_and_then f o)
few_then None f h = tt
few_then (Some x) f h = h x

few_step : (limits : Limits) (scene : Scene) (s : Sight) (next : Next) → AreFew (take_step limits scene s next)
few_step limits scene s (Schedule index i) = few_map (node_at s.def.nodes index) _ (λ n. few_kind limits scene s n i n.kind (filled_in scene s n.input))
few_step limits scene s (Joins index i) = few_map (last_place s.attempts index i) _ (λ p. (let output = join_output s index i in few_within limits (output ∷ []) (Close p Completed None (Some output) ∷ []) (few_close p Completed None (Some output))))
few_step limits scene s (Turns index i) =
    few_then (node_at s.def.nodes index) _ (λ n. few_then (last_place s.attempts index i) _ (λ p. few_then _ _ (λ x. few_loop limits s p x n.kind)))
few_step limits scene s Waits = tt
few_step limits scene s AllDone = tt

few_done : (limits : Limits) (scene : Scene) (s : Sight) (next : Next) → AreFew (all_done limits scene s next)
few_done limits scene s (Schedule index i) = tt
few_done limits scene s (Joins index i) = tt
few_done limits scene s (Turns index i) = tt
few_done limits scene s Waits = tt
few_done limits scene s AllDone = few_within limits (flow_output scene s ∷ []) (End flow.Completed None (Some (flow_output scene s)) ∷ []) (few_ended flow.Completed None (Some (flow_output scene s)))

few_orphan : (b : Bool) → AreFew (if b then Some parent_ended else None)
few_orphan true = omega arith
few_orphan false = tt

few_late : (b alert : Bool) → AreFew (if b then Some (ran_too_long alert) else None)
few_late true true = omega arith
few_late true false = omega arith
few_late false alert = tt

few_first : (x : Option (List Act)) (rest : List (Option (List Act))) → AreFew x → AreFew (first_of rest) → AreFew (first_of (x ∷ rest))
few_first None rest p q = q
few_first (Some acts) rest p q = p

few_pick : (limits : Limits) (scene : Scene) (s : Sight) → AreFew (pick limits scene s)
unfolding pick
few_pick limits scene s = by_status (is_running s.status) where
  by_status : (b : Bool) → AreFew (if b then first_of (rules limits scene s) else None)
  by_status false = tt
  by_status true =
      few_first (r0 scene) _ (few_orphan scene.orphan)
      (few_first (r1 s) _ (few_late s.over_time s.def.alert_only)
      (few_first (r2 s) _ (few_map (first_due s.due) _ (λ q. few_past_due s q.0 q.1))
      (few_first (r3 limits scene s) _ (few_map (first_some s.ended) _ (λ q. (let output = child_output scene.mark q.1 in few_within limits (output ∷ []) (Close q.0 (child_outcome q.1.status) (Some q.1.reason) (Some output) ∷ []) (few_close q.0 (child_outcome q.1.status) (Some q.1.reason) (Some output)))))
      (few_first (r4 limits s) _ (few_map (first_lost s.attempts) _ (λ q. few_lost limits s q.0 q.1))
      (few_first (r5 limits scene s) _ (few_step limits scene s (next_step s.attempts s.def.nodes))
      (few_first (r6 limits scene s) [] (few_done limits scene s (next_step s.attempts s.def.nodes)) tt))))))

-- ---- numbers

one_birth : (child : Child) → births child ≤ 1
one_birth Nothing = omega arith
one_birth (NewFlow def input) = omega arith
one_birth TooLarge = omega arith
one_birth Refused = omega arith

one_flow : (act : Act) → new_flow act ≤ new_task act
one_flow (Add n) = one_birth n.child
one_flow (Close p o r out) = omega arith
one_flow (Note p x r) = omega arith
one_flow (Forgive p) = omega arith
one_flow (TurnOn p out turn) = omega arith
one_flow (Variables v) = omega arith
one_flow (NoteFlow r) = omega arith
one_flow (End s r out) = omega arith

few_flows : (acts : List Act) → new_flows acts ≤ new_tasks acts
few_flows [] = omega arith
few_flows (act ∷ rest) = let h = few_flows rest in let k = one_flow act in omega (arith, h, k)

fitted_task : (r : Room) (act : Act) → new_task (fitted r act) ≡ new_task act
fitted_task r (Add n) = refl
fitted_task r (Close p o x out) = refl
fitted_task r (Note p x y) = refl
fitted_task r (Forgive p) = refl
fitted_task r (TurnOn p out turn) = refl
fitted_task r (Variables v) = refl
fitted_task r (NoteFlow x) = refl
fitted_task r (End s x out) = refl

fitted_tasks : (r : Room) (acts : List Act) → new_tasks (map (fitted r) acts) ≡ new_tasks acts
fitted_tasks r [] = refl
fitted_tasks r (act ∷ rest) = let h = fitted_tasks r rest in let k = fitted_task r act in omega (arith, h, k)

none_added : (acts : List Act) → list_any is_add acts ≡ false → new_tasks acts ≡ 0
none_added [] h = refl
none_added (Add n ∷ rest) h = cc
none_added (Close p o r out ∷ rest) h = let k = none_added rest h in omega (arith, k)
none_added (Note p x r ∷ rest) h = let k = none_added rest h in omega (arith, k)
none_added (Forgive p ∷ rest) h = let k = none_added rest h in omega (arith, k)
none_added (TurnOn p out turn ∷ rest) h = let k = none_added rest h in omega (arith, k)
none_added (Variables v ∷ rest) h = let k = none_added rest h in omega (arith, k)
none_added (NoteFlow r ∷ rest) h = let k = none_added rest h in omega (arith, k)
none_added (End s r out ∷ rest) h = let k = none_added rest h in omega (arith, k)

-- without a number for a flow none is started
unborn : (r : Room) (n : NewAttempt) (child : Child) → n.child ≡ child → r.unnumbered ≡ true → births (fitted_child r n child).child ≡ 0
unborn r n Nothing is h = rw is refl
unborn r n Refused is h = rw is refl
unborn r n TooLarge is h = by_room r.full where
  by_room : (b : Bool) → births (if b then store_full n else n).child ≡ 0
  by_room true = refl
  by_room false = rw is refl
unborn r n (NewFlow def input) is h = by_room r.full r.unnumbered h where
  by_room : (b c : Bool) → c ≡ true → births (if b || c then store_full n else n).child ≡ 0
  by_room true c h = refl
  by_room false true h = refl
  by_room false false h = cc

no_flow : (r : Room) (act : Act) → r.unnumbered ≡ true → new_flow (fitted r act) ≡ 0
no_flow r (Add n) h = unborn r n n.child refl h
no_flow r (Close p o x out) h = refl
no_flow r (Note p x y) h = refl
no_flow r (Forgive p) h = refl
no_flow r (TurnOn p out turn) h = refl
no_flow r (Variables v) h = refl
no_flow r (NoteFlow x) h = refl
no_flow r (End s x out) h = refl

no_flows : (r : Room) (acts : List Act) → r.unnumbered ≡ true → new_flows (map (fitted r) acts) ≡ 0
no_flows r [] h = refl
no_flows r (act ∷ rest) h = let k = no_flows r rest h in let l = no_flow r act h in omega (arith, k, l)

allowed_numbers : (limits : Limits) (kept : ℕ) (t : Turn) (wish : List Act) → Few wish → t.next_task ≤ 2 ^ 56 → t.next_flow ≤ 2 ^ 56
    → (t.next_task + new_tasks (allowed (room limits kept t) wish) ≤ 2 ^ 56) × (t.next_flow + new_flows (allowed (room limits kept t) wish) ≤ 2 ^ 56)
allowed_numbers limits kept t wish few tasks flows = by_tests (nat_le (2 ^ 56) t.next_task) (list_any is_add wish) (nat_le (2 ^ 56) t.next_flow) refl refl refl where
  r : Room
  r = room limits kept t

  by_tests : (b c d : Bool) → nat_le (2 ^ 56) t.next_task ≡ b → list_any is_add wish ≡ c → nat_le (2 ^ 56) t.next_flow ≡ d
      → (t.next_task + new_tasks (if b && c then fails (codes "numbers spent") None else map (fitted (room limits kept t)) wish) ≤ 2 ^ 56)
      × (t.next_flow + new_flows (if b && c then fails (codes "numbers spent") None else map (fitted (room limits kept t)) wish) ≤ 2 ^ 56)
  by_tests true true d x y z = (omega (arith, tasks), omega (arith, flows))
  by_tests true false d x y z =
      let same = fitted_tasks (room limits kept t) wish in let none = none_added wish y in let fewer = few_flows (map (fitted (room limits kept t)) wish) in
      (omega (arith, tasks, same, none), omega (arith, flows, same, none, fewer))
  by_tests false c true x y z =
      let same = fitted_tasks (room limits kept t) wish in let none = no_flows (room limits kept t) wish z in
      let lt : t.next_task < 2 ^ 56 = grind (arith, nat_tests) in
      (omega (arith, lt, same, few), omega (arith, flows, none))
  by_tests false c false x y z =
      let same = fitted_tasks (room limits kept t) wish in let fewer = few_flows (map (fitted (room limits kept t)) wish) in
      let lt : t.next_task < 2 ^ 56 = grind (arith, nat_tests) in
      let below : t.next_flow < 2 ^ 56 = grind (arith, nat_tests) in
      (omega (arith, lt, same, few), omega (arith, below, same, few, fewer))

-- after what the first rule does there are numbers enough for what it added
pub chosen_numbers : (limits : Limits) (scene : Scene) (kept e : ℕ) (t : Turn) (acts : List Act) → choose limits scene kept e t ≡ Some acts → t.next_task ≤ 2 ^ 56 → t.next_flow ≤ 2 ^ 56
    → (t.next_task + new_tasks acts ≤ 2 ^ 56) × (t.next_flow + new_flows acts ≤ 2 ^ 56)
chosen_numbers limits scene kept e t acts is tasks flows = by_pick (pick limits scene (sight e scene.children t.flow)) (few_pick limits scene (sight e scene.children t.flow)) is where
  by_pick : (o : Option (List Act)) → AreFew o → option_map (allowed (room limits kept t)) o ≡ Some acts → (t.next_task + new_tasks acts ≤ 2 ^ 56) × (t.next_flow + new_flows acts ≤ 2 ^ 56)
  by_pick None few k = cc
  by_pick (Some wish) few k =
      let same : allowed (room limits kept t) wish ≡ acts = cc in
      subst (λ xs. (t.next_task + new_tasks xs ≤ 2 ^ 56) × (t.next_flow + new_flows xs ≤ 2 ^ 56)) same (allowed_numbers limits kept t wish few tasks flows)
