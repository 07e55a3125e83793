-- A flow that was decided is settled: to the rules all is then as it was when it was decided.
use Rattle.std.proofs.Common.{◌≡◌, ℕ, ◌+◌, ◌<◌, ◌≤◌, ◌==◌, ◌&&◌, Bool, true, false, not, if◌then◌else◌, is_some, List, [], ◌∷◌, ◌++◌, map, filter, length, Option, None, Some, refl, sym, ap, ◌∙◌, subst, arith}
use Rattle.std.proofs.lemmas.Bool.Decides.{nat_tests}
use Rattle.std.proofs.lemmas.List.{map-append}
use Rattle.std.proofs.lemmas.List.Elements.{All-nil, All-cons, All-head, All-tail, All-append, filter-append}
use Rattle.std.proofs.lemmas.List.Folds.{find-append}
use Rattle.std.specs.Prelude.{option_map, option_and_then}
use Rattle.std.specs.List.{All, find}
use Rattle.std.specs.Option.{option_map_or, option_or}
use Rattle.wf_doc.specs.declared.doc.Doc.{Doc}
use Rattle.wf_names.specs.FlowStatus.{flow_is_open}
use Rattle.wf_names.specs.TaskStatus.{task_is_open}
use Rattle.wf_names.specs.declared.ids.FlowNo.{FlowNo}
use Rattle.wf_names.specs.declared.ids.TaskNo.{TaskNo}
use Rattle.wf_wire.specs.declared.limits.Limits.{Limits}
use Rattle.wf_machine.specs.declared.definition.Node.{Node}
use Rattle.wf_machine.specs.declared.definition.NodeKind.{NodeKind, Simple, Switch, Fork', Join, Loop', SubFlow, SetVariable, Wait, Human, Terminate}
use Rattle.wf_machine.specs.declared.sight.ChildState.{ChildState}
use Rattle.wf_machine.specs.declared.walking.Next.{Next}
use Rattle.wf_machine.specs.declared.walking.Next.TheVariants.{Schedule, Join as Joins, Turn as Turns, Waits, Done}
use Rattle.wf_machine.specs.Flows.{flow_numbered, is_concerned, is_flow, new_kept, revised}
use Rattle.wf_machine.specs.Marks.{next_step, node_at}
use Rattle.wf_machine.specs.Records.{Held}
use Rattle.wf_machine.specs.State.{Attempt, Flow, Kept, State}
use Rattle.wf_rules.specs.declared.acting.Act.{Act}
use Rattle.wf_rules.specs.declared.acting.Act.TheVariants.{Add, Close, Note, Forgive, Turn as TurnOn, Variables, NoteFlow, End}
use Rattle.wf_rules.specs.declared.acting.Child.{Child}
use Rattle.wf_rules.specs.declared.acting.Child.TheVariants.{Nothing, Flow as NewFlow, TooLarge, Refused}
use Rattle.wf_rules.specs.Acts.{Turn, make, made, started}
use Rattle.wf_rules.specs.Loops.{LoopsFit}
use Rattle.wf_rules.specs.Plans.{AllBelow, plan, turn_at}
use Rattle.wf_rules.specs.Rules.{all_done, allowed, choose, decide, pick, room, rule, take_step}
use Rattle.wf_rules.specs.Outputs.{filled_in}
use Rattle.wf_rules.specs.Scheduling.{schedule, schedule_kind}
use Rattle.wf_rules.specs.Sight.{Scene, Sight, child_end, child_state, children_of, ended_child, has_ended, is_child_of, is_open_in, is_open_there, scene_in, sight}
use Rattle.wf_rules.proofs.EndLemmas.{decided_settled}
use Rattle.wf_rules.proofs.PlanLemmas.{made_flows, plan_decides}
use Rattle.wf_steps.specs.Calls.{decided, is_settled, settle, with_decided}
use Rattle.wf_laws.specs.Sound.{FlowsRise, IsSound, IsSoundFlow}

-- ---- what a decision leaves of a flow, and which flows it starts

-- its number and its parent, which no act changes
abbrev place_of : Flow → FlowNo × Option (FlowNo × TaskNo)
place_of f = (f.number, f.parent)

make_place : (e : ℕ) (act : Act) (t : Turn) → place_of (make e act t).flow ≡ place_of t.flow
make_place e (Add n) t = refl
make_place e (Close p o r out) t = refl
make_place e (Note p x r) t = refl
make_place e (Forgive p) t = refl
make_place e (TurnOn p out turn) t = refl
make_place e (Variables v) t = refl
make_place e (NoteFlow r) t = refl
make_place e (End s r out) t = refl

made_place : (e : ℕ) (acts : List Act) (t : Turn) → place_of (made e acts t).flow ≡ place_of t.flow
made_place e [] t = refl
made_place e (act ∷ rest) t = made_place e rest (make e act t) ∙ make_place e act t

-- an open flow whose number was not given before
record IsNewborn (low : ℕ) (f : Flow) : Type 0 where
  number : low ≤ f.number.0
  opened : flow_is_open f.status ≡ true

started_new : (e low : ℕ) (t : Turn) (child : Child) → low ≤ t.next_flow → All (IsNewborn low) (started e t child)
started_new e low t Nothing le = All-nil (IsNewborn low)
started_new e low t (NewFlow def input) le = All-cons (IsNewborn low) _ [] (record { number = le; opened = refl }) (All-nil (IsNewborn low))
started_new e low t TooLarge le = All-nil (IsNewborn low)
started_new e low t Refused le = All-nil (IsNewborn low)

make_new : (e low : ℕ) (act : Act) (t : Turn) → low ≤ t.next_flow → All (IsNewborn low) t.children → All (IsNewborn low) (make e act t).children
make_new e low (Add n) t le h = All-append (IsNewborn low) t.children (started e t n.child) h (started_new e low t n.child le)
make_new e low (Close p o r out) t le h = h
make_new e low (Note p x r) t le h = h
make_new e low (Forgive p) t le h = h
make_new e low (TurnOn p out turn) t le h = h
make_new e low (Variables v) t le h = h
make_new e low (NoteFlow r) t le h = h
make_new e low (End s r out) t le h = h

made_new : (e low : ℕ) (acts : List Act) (t : Turn) → low ≤ t.next_flow → All (IsNewborn low) t.children → All (IsNewborn low) (made e acts t).children
made_new e low [] t le h = h
made_new e low (act ∷ rest) t le h =
    made_new e low rest (make e act t) (let more = made_flows e (act ∷ []) t in omega (arith, more, le)) (make_new e low act t le h)

-- ---- the rules see of children only which have ended

-- a scene with any children
module _ (limits : Limits) (a : Scene) (cs : List ChildState) where
  abbrev beside : Scene
  beside = record a { children = cs }

  kind_beside : (x : Sight) (n : Node) (i : ℕ) (kind : NodeKind) (input : Doc) → schedule_kind limits beside x n i kind input ≡ schedule_kind limits a x n i kind input
  kind_beside x n i Simple input = refl
  kind_beside x n i (Switch cases) input = refl
  kind_beside x n i (Fork' c branches) input = refl
  kind_beside x n i (Join references) input = refl
  kind_beside x n i (Loop' count c body) input = refl
  kind_beside x n i (SubFlow name version) input = refl
  kind_beside x n i SetVariable input = refl
  kind_beside x n i Wait input = refl
  kind_beside x n i Human input = refl
  kind_beside x n i Terminate input = refl

  step_beside : (x : Sight) (next : Next) → take_step limits beside x next ≡ take_step limits a x next
  step_beside x (Schedule index i) = by_node (node_at x.def.nodes index) where
    by_node : (o : Option Node) → option_map (λ (n : Node). schedule limits beside x n i) o ≡ option_map (λ (n : Node). schedule limits a x n i) o
    by_node None = refl
    by_node (Some n) = ap Some (kind_beside x n i n.kind (filled_in a x n.input))
  step_beside x (Joins index i) = refl
  step_beside x (Turns index i) = refl
  step_beside x Waits = refl
  step_beside x Done = refl

  done_beside : (x : Sight) (next : Next) → all_done limits beside x next ≡ all_done limits a x next
  done_beside x (Schedule index i) = refl
  done_beside x (Joins index i) = refl
  done_beside x (Turns index i) = refl
  done_beside x Waits = refl
  done_beside x Done = refl

  pick_beside : (x : Sight) → pick limits beside x ≡ pick limits a x
  unfolding pick
  pick_beside x =
      let fifth = step_beside x (next_step x.attempts x.def.nodes) in
      let sixth = done_beside x (next_step x.attempts x.def.nodes) in
      rw (fifth, sixth) refl

ended_beside : (cs ds : List ChildState) → ((n : FlowNo) → ended_child ds n ≡ None) → (attempts : List Attempt) → map (child_end (cs ++ ds)) attempts ≡ map (child_end cs) attempts
ended_beside cs ds none [] = refl
ended_beside cs ds none (a ∷ rest) = rw (one (task_is_open a.status) a.child, ended_beside cs ds none rest) refl where
  found : (n : FlowNo) (o : Option ChildState) → option_or o (ended_child ds n) ≡ o
  found n None = none n
  found n (Some c) = refl

  one : (b : Bool) (child : Option FlowNo) → (if b then option_and_then (ended_child (cs ++ ds)) child else None) ≡ (if b then option_and_then (ended_child cs) child else None)
  one false child = refl
  one true None = refl
  one true (Some n) = find-append (has_ended n) cs ds ∙ found n (ended_child cs n)

sight_beside : (e : ℕ) (cs ds : List ChildState) (f : Flow) → ((n : FlowNo) → ended_child ds n ≡ None) → sight e (cs ++ ds) f ≡ sight e cs f
unfolding sight
sight_beside e cs ds f none = rw (ended_beside cs ds none f.attempts) refl

-- ---- lists

find_through : {T : Type 0} (f : T → T) (p : T → Bool) (xs : List T) → ((x : T) → p (f x) ≡ p x) → find p (map f xs) ≡ option_map f (find p xs)
find_through f p [] same = refl
find_through f p (x ∷ xs) same = rw (same x) (by_test (p x) (find_through f p xs same)) where
  by_test : (b : Bool) → find p (map f xs) ≡ option_map f (find p xs) → (if b then Some (f x) else find p (map f xs)) ≡ option_map f (if b then Some x else find p xs)
  by_test true h = refl
  by_test false h = h

found_passes : {T : Type 0} (p : T → Bool) (xs : List T) (x : T) → find p xs ≡ Some x → p x ≡ true
found_passes p [] x found = cc
found_passes p (y ∷ ys) x found = by_test (p y) refl found (found_passes p ys x) where
  by_test : (b : Bool) → p y ≡ b → (if b then Some y else find p ys) ≡ Some x → (find p ys ≡ Some x → p x ≡ true) → p x ≡ true
  by_test true is found later = let same : y ≡ x = cc in ap p (sym same) ∙ is
  by_test false is found later = later found

all_found : {T : Type 0} (P : T → Type 0) (p : T → Bool) (xs : List T) (x : T) → All P xs → find p xs ≡ Some x → P x
all_found P p [] x all found = cc
all_found P p (y ∷ ys) x all found = by_test (p y) found (all_found P p ys x (All-tail P y ys all)) where
  by_test : (b : Bool) → (if b then Some y else find p ys) ≡ Some x → (find p ys ≡ Some x → P x) → P x
  by_test true found later = let same : y ≡ x = cc in subst P same (All-head P y ys all)
  by_test false found later = later found

none_mapped : {T U : Type 0} (f : T → U) (o : Option T) → option_map f o ≡ None → o ≡ None
none_mapped f None h = refl
none_mapped f (Some x) h = cc

-- ---- numbers of kept flows

rise_room : (low high : ℕ) (ks : List Kept) → FlowsRise low high ks → low ≤ high
rise_room low high [] h = h
rise_room low high (k ∷ ks) h = let first = h.0 in let more = rise_room (k.flow.number.0 + 1) high ks h.1 in omega (arith, first, more)

abbrev IsBelow : ℕ → Kept → Type 0
IsBelow high k = k.flow.number.0 < high

rise_below : (low high : ℕ) (ks : List Kept) → FlowsRise low high ks → All (IsBelow high) ks
rise_below low high [] h = All-nil (IsBelow high)
rise_below low high (k ∷ ks) h =
    let room = rise_room (k.flow.number.0 + 1) high ks h.1 in
    All-cons (IsBelow high) k ks (omega (arith, room)) (rise_below (k.flow.number.0 + 1) high ks h.1)

children_below : (number : FlowNo) (high : ℕ) (ks : List Kept) → All (IsBelow high) ks → AllBelow high (map child_state (filter (is_child_of number) ks))
children_below number high [] h = tt
children_below number high (k ∷ ks) h = by_test (is_child_of number k) (children_below number high ks (All-tail (IsBelow high) k ks h)) where
  by_test : (b : Bool) → AllBelow high (map child_state (filter (is_child_of number) ks))
      → AllBelow high (map child_state (if b then k ∷ filter (is_child_of number) ks else filter (is_child_of number) ks))
  by_test true more = (All-head (IsBelow high) k ks h, more)
  by_test false more = more

-- ---- kept flows after the change of one

none_new : (place : ℕ) (number : FlowNo) (low : ℕ) (fs : List Flow) → number.0 < low → All (IsNewborn low) fs → flow_numbered number (map (new_kept place) fs) ≡ None
none_new place number low [] lt new = refl
none_new place number low (f ∷ fs) lt new =
    let le = (All-head (IsNewborn low) f fs new).number in
    let other : (f.number.0 == number.0) ≡ false = grind (arith, nat_tests, le) in
    rw other (none_new place number low fs lt (All-tail (IsNewborn low) f fs new))

-- a flow is no child of itself
no_child : (number : FlowNo) (n : ℕ) (parent : Option (FlowNo × TaskNo)) → n ≡ number.0 → Held (λ p. p.0.0 < n) parent → option_map_or (λ (p : FlowNo × TaskNo). p.0.0 == number.0) parent false ≡ false
no_child number n None same held = refl
no_child number n (Some p) same held = grind (arith, nat_tests)

not_ended : (number : FlowNo) (c : ChildState) → flow_is_open c.status ≡ true → has_ended number c ≡ false
not_ended number c opened = rw opened (by_test (c.flow.0 == number.0)) where
  by_test : (b : Bool) → (b && false) ≡ false
  by_test true = refl
  by_test false = refl

module _ (place : ℕ) (before now : Flow) where
  revised_number : (k : Kept) → (revised place before now k).flow.number.0 ≡ k.flow.number.0
  revised_number k = by_tests (is_flow now.number k) (is_concerned before now k.flow) refl where
    by_tests : (b c : Bool) → (k.flow.number.0 == now.number.0) ≡ b → (if b then new_kept place now else if c then record k { revision = place } else k).flow.number.0 ≡ k.flow.number.0
    by_tests true c is = grind (arith, nat_tests)
    by_tests false true is = refl
    by_tests false false is = refl

  find_revised : (number : FlowNo) (ks : List Kept) → flow_numbered number (map (revised place before now) ks) ≡ option_map (revised place before now) (flow_numbered number ks)
  find_revised number ks = find_through (revised place before now) (is_flow number) ks (λ k. ap (λ n. n == number.0) (revised_number k))

  -- under its number stands the flow as it is now
  found_now : (number : FlowNo) (ks more : List Kept) (k : Kept) → now.number ≡ k.flow.number → flow_numbered number ks ≡ Some k
      → flow_numbered number (map (revised place before now) ks ++ more) ≡ Some (new_kept place now)
  found_now number ks more k own found =
      find-append (is_flow number) (map (revised place before now) ks) more
      ∙ ap (λ o. option_or o (flow_numbered number more)) (find_revised number ks ∙ ap (option_map (revised place before now)) found ∙ here)
    where
      here : Some (revised place before now k) ≡ Some (new_kept place now)
      here = let same : (k.flow.number.0 == now.number.0) ≡ true = grind (arith, nat_tests) in rw same refl

  revised_other : (k : Kept) → is_flow now.number k ≡ false → (revised place before now k).flow ≡ k.flow
  revised_other k other = rw other (by_test (is_concerned before now k.flow)) where
    by_test : (c : Bool) → (if c then record k { revision = place } else k).flow ≡ k.flow
    by_test true = refl
    by_test false = refl

  -- the attempt is open there as it was, in a flow of a lower number
  open_there : (parent : FlowNo × TaskNo) (low : ℕ) (ks : List Kept) (fs : List Flow) → parent.0.0 < now.number.0 → parent.0.0 < low → All (IsNewborn low) fs
      → option_map_or (is_open_there parent.1) (flow_numbered parent.0 (map (revised place before now) ks ++ map (new_kept place) fs)) false
      ≡ option_map_or (is_open_there parent.1) (flow_numbered parent.0 ks) false
  open_there parent low ks fs lower lt new =
      ap (λ o. option_map_or (is_open_there parent.1) o false)
      (find-append (is_flow parent.0) (map (revised place before now) ks) (map (new_kept place) fs)
      ∙ ap (λ o. option_or o (flow_numbered parent.0 (map (new_kept place) fs))) (find_revised parent.0 ks)
      ∙ ap (λ o. option_or (option_map (revised place before now) (flow_numbered parent.0 ks)) o) (none_new place parent.0 low fs lt new))
      ∙ by_found (flow_numbered parent.0 ks) refl where
        by_found : (o : Option Kept) → flow_numbered parent.0 ks ≡ o
            → option_map_or (is_open_there parent.1) (option_or (option_map (revised place before now) o) None) false ≡ option_map_or (is_open_there parent.1) o false
        by_found None is = refl
        by_found (Some k) is =
            let own = found_passes (is_flow parent.0) ks k is in
            ap (λ (f : Flow). is_open_there parent.1 (new_kept place f)) (revised_other k (grind (arith, nat_tests)))

  -- the children, with this one before them where it is one
  abbrev with_child : Kept → List ChildState → List ChildState
  with_child k cs = if is_child_of now.number k then child_state k ∷ cs else cs

  child_first : (k : Kept) (ks : List Kept) → map child_state (filter (is_child_of now.number) (k ∷ ks)) ≡ with_child k (map child_state (filter (is_child_of now.number) ks))
  child_first k ks = by_test (is_child_of now.number k) where
    by_test : (b : Bool) → map child_state (if b then k ∷ filter (is_child_of now.number) ks else filter (is_child_of now.number) ks)
        ≡ (if b then child_state k ∷ map child_state (filter (is_child_of now.number) ks) else map child_state (filter (is_child_of now.number) ks))
    by_test true = refl
    by_test false = refl

  child_revised : (next : ℕ) (k : Kept) (cs : List ChildState) → Held (λ p. p.0.0 < now.number.0) now.parent → IsSoundFlow next k → with_child (revised place before now k) cs ≡ with_child k cs
  child_revised next k cs parent sound = by_tests (is_flow now.number k) (is_concerned before now k.flow) refl where
    by_tests : (b c : Bool) → is_flow now.number k ≡ b → with_child (if b then new_kept place now else if c then record k { revision = place } else k) cs ≡ with_child k cs
    by_tests true c is =
        rw (no_child now.number now.number.0 now.parent refl parent, no_child now.number k.flow.number.0 k.flow.parent (grind (arith, nat_tests)) sound.parent) refl
    by_tests false true is = refl
    by_tests false false is = refl

  children_revised : (next : ℕ) (ks : List Kept) → Held (λ p. p.0.0 < now.number.0) now.parent → All (IsSoundFlow next) ks
      → map child_state (filter (is_child_of now.number) (map (revised place before now) ks)) ≡ map child_state (filter (is_child_of now.number) ks)
  children_revised next [] parent sound = refl
  children_revised next (k ∷ ks) parent sound =
      child_first (revised place before now k) (map (revised place before now) ks)
      ∙ ap (with_child (revised place before now k)) (children_revised next ks parent (All-tail (IsSoundFlow next) k ks sound))
      ∙ child_revised next k (map child_state (filter (is_child_of now.number) ks)) parent (All-head (IsSoundFlow next) k ks sound)
      ∙ sym (child_first k ks)

  none_ended : (number : FlowNo) (low : ℕ) (fs : List Flow) → All (IsNewborn low) fs → ended_child (map child_state (filter (is_child_of now.number) (map (new_kept place) fs))) number ≡ None
  none_ended number low [] new = refl
  none_ended number low (f ∷ fs) new =
      ap (λ cs. ended_child cs number) (child_first (new_kept place f) (map (new_kept place) fs))
      ∙ by_test (is_child_of now.number (new_kept place f)) (none_ended number low fs (All-tail (IsNewborn low) f fs new)) where
        by_test : (b : Bool) → ended_child (map child_state (filter (is_child_of now.number) (map (new_kept place) fs))) number ≡ None
            → ended_child
            (if b then child_state (new_kept place f) ∷ map child_state (filter (is_child_of now.number) (map (new_kept place) fs))
            else map child_state (filter (is_child_of now.number) (map (new_kept place) fs)))
            number
            ≡ None
        by_test true none = rw (not_ended number (child_state (new_kept place f)) (All-head (IsNewborn low) f fs new).opened) none
        by_test false none = none

-- ---- the law

-- after a decision no rule applies to the flow, beside what stood beside it before
settled_after : (limits : Limits) (scene : Scene) (kept e : ℕ) (t : Turn) → AllBelow t.next_flow scene.children → LoopsFit t.flow.def.nodes
    → pick limits scene (sight e scene.children (decide limits scene kept e t).flow) ≡ None
unfolding rule
settled_after limits scene kept e t below fit =
    let turn = decide limits scene kept e t in
    none_mapped (allowed (room limits kept turn)) _ (none_mapped (λ acts. made e acts turn) (choose limits scene kept e turn) (decided_settled limits scene kept e t below fit))

-- what a decision of the flow f leaves of a sound state, and what then stands beside the flow
module _ (limits : Limits) (place e : ℕ) (s : State) (f : Flow) (sound : IsSound s) (low : f.number.0 < s.next_flow) (parent : Held (λ p. p.0.0 < f.number.0) f.parent) where
  abbrev first : Turn
  first = turn_at f (record { flow = s.next_flow; task = s.next_task })

  abbrev turn : Turn
  turn = decided limits e f s

  abbrev there : State
  there = with_decided limits place e f f s

  abbrev children : List ChildState
  children = children_of s f.number

  abbrev born : List ChildState
  born = map child_state (filter (is_child_of turn.flow.number) (map (new_kept place) turn.children))

  abbrev acts : List Act
  acts = plan limits (scene_in s f) (length s.flows) e first

  is_made : made e acts first ≡ turn
  is_made = plan_decides limits (scene_in s f) (length s.flows) e first

  same_place : place_of turn.flow ≡ place_of f
  same_place = subst (λ t. place_of t.flow ≡ place_of f) is_made (made_place e acts first)

  newborn : All (IsNewborn s.next_flow) turn.children
  newborn = subst (λ t. All (IsNewborn s.next_flow) t.children) is_made (made_new e s.next_flow acts first (omega arith) (All-nil (IsNewborn s.next_flow)))

  parent_now : Held (λ p. p.0.0 < turn.flow.number.0) turn.flow.parent
  parent_now = subst (λ (p : FlowNo × Option (FlowNo × TaskNo)). Held (λ q. q.0.0 < p.0.0) p.1) (sym same_place) parent

  low_now : turn.flow.number.0 < s.next_flow
  low_now = subst (λ (p : FlowNo × Option (FlowNo × TaskNo)). p.0.0 < s.next_flow) (sym same_place) low

  orphan_there : (o : Option (FlowNo × TaskNo)) → Held (λ p. p.0.0 < turn.flow.number.0) o
      → option_map_or (λ p. not (is_open_in there p)) o false ≡ option_map_or (λ p. not (is_open_in s p)) o false
  orphan_there None lower = refl
  orphan_there (Some p) lower =
      ap not (open_there place f turn.flow p s.next_flow s.flows turn.children lower (let le = low_now in omega (arith, lower, le)) newborn)

  children_there : children_of there turn.flow.number ≡ children_of s turn.flow.number ++ born
  children_there =
      let old = map (revised place f turn.flow) s.flows in
      let new = map (new_kept place) turn.children in
      ap (map child_state) (filter-append (is_child_of turn.flow.number) old new)
      ∙ map-append child_state (filter (is_child_of turn.flow.number) old) (filter (is_child_of turn.flow.number) new)
      ∙ ap (λ cs. cs ++ born) (children_revised place f turn.flow s.next_task s.flows parent_now sound.flows)

  scene_there : scene_in there turn.flow ≡ record (scene_in s f) { children = children ++ born }
  scene_there =
      let orphan = orphan_there turn.flow.parent parent_now ∙ ap (λ (p : FlowNo × Option (FlowNo × TaskNo)). option_map_or (λ q. not (is_open_in s q)) p.1 false) same_place in
      let beside = children_there ∙ ap (λ (p : FlowNo × Option (FlowNo × TaskNo)). children_of s p.0 ++ born) same_place in
      rw (orphan, beside) refl

  settled_there : LoopsFit f.def.nodes → is_settled limits e there turn.flow ≡ true
  settled_there fit =
      let below = children_below f.number s.next_flow s.flows (rise_below 1 s.next_flow s.flows sound.rise) in
      let none = ap (λ scene. pick limits scene (sight e scene.children turn.flow)) scene_there
      ∙ pick_beside limits (scene_in s f) (children ++ born) (sight e (children ++ born) turn.flow)
      ∙ ap (pick limits (scene_in s f)) (sight_beside e children born turn.flow (λ n. none_ended place f turn.flow n s.next_flow turn.children newborn))
      ∙ settled_after limits (scene_in s f) (length s.flows) e first below fit in
      ap (λ o. not (is_some (option_map (allowed (room limits (length there.flows) (turn_at turn.flow (record { flow = there.next_flow; task = there.next_task })))) o))) none

pub settled_once : (limits : Limits) (place again e : ℕ) (number : FlowNo) (s : State) (k l : Kept) → IsSound s
    → flow_numbered number s.flows ≡ Some k → LoopsFit k.flow.def.nodes → flow_numbered number (settle limits place e k.flow s).flows ≡ Some l
    → settle limits again e l.flow (settle limits place e k.flow s) ≡ settle limits place e k.flow s
settled_once limits place again e number s k l sound found fit stands = by_test (is_settled limits e s k.flow) refl stands where
  low : k.flow.number.0 < s.next_flow
  low = all_found (IsBelow s.next_flow) (is_flow number) s.flows k (rise_below 1 s.next_flow s.flows sound.rise) found

  parent : Held (λ p. p.0.0 < k.flow.number.0) k.flow.parent
  parent = (all_found (IsSoundFlow s.next_task) (is_flow number) s.flows k sound.flows found).parent

  by_test : (b : Bool) → is_settled limits e s k.flow ≡ b → flow_numbered number (if b then s else with_decided limits place e k.flow k.flow s).flows ≡ Some l
      → settle limits again e l.flow (if b then s else with_decided limits place e k.flow k.flow s) ≡ (if b then s else with_decided limits place e k.flow k.flow s)
  by_test true is stands = let same : k ≡ l = cc in rw (← same, is) refl
  by_test false is stands =
      let now = decided limits e k.flow s in
      let there = with_decided limits place e k.flow k.flow s in
      let own = ap (λ (p : FlowNo × Option (FlowNo × TaskNo)). p.0) (same_place limits place e s k.flow sound low parent) in
      let decided_there = found_now place k.flow now.flow number s.flows (map (new_kept place) now.children) k own found in
      let same : new_kept place now.flow ≡ l = cc in
      subst (λ (j : Kept). settle limits again e j.flow there ≡ there) same
      (ap (λ b. if b then there else with_decided limits again e now.flow now.flow there) (settled_there limits place e s k.flow sound low parent fit))
