-- A plan that holds does what a decision does, at another moment and with other numbers.
use Rattle.std.proofs.Common.{◌≡◌, ℕ, zero, suc, ◌+◌, ◌^◌, ◌≤◌, ◌<◌, Bool, true, false, if◌then◌else◌, ◌&&◌, ◌||◌, nat_le, List, [], ◌∷◌, ◌++◌, map, filter, length, Option, None, Some, codes, ap, refl, sym, ◌∙◌, arith}
use Rattle.std.proofs.lemmas.Bool.Decides.{nat_tests}
use Rattle.std.proofs.lemmas.List.{length-append}
use Rattle.std.specs.Prelude.{option_map}
use Rattle.std.specs.List.{list_any}
use Rattle.std.specs.Option.{option_map_or}
use Rattle.wf_wire.specs.declared.limits.Limits.{Limits}
use Rattle.wf_rules.specs.declared.acting.Act.{Act}
use Rattle.wf_rules.specs.declared.acting.Act.TheVariants.{Add, Close, Note, Forgive, Turn as TurnOn, Variables, NoteFlow, End}
use Rattle.wf_rules.specs.declared.acting.Child.{Child}
use Rattle.wf_rules.specs.declared.acting.Child.TheVariants.{Nothing, Flow as NewFlow, TooLarge, Refused}
use Rattle.wf_rules.specs.declared.acting.NewAttempt.{NewAttempt}
use Rattle.wf_machine.specs.declared.sight.ChildState.{ChildState}
use Rattle.wf_machine.specs.declared.timed.Cause.{Cause}
use Rattle.wf_machine.specs.State.{Attempt, Flow}
use Rattle.wf_rules.specs.Sight.{Scene, sight, due, deadlines, all_deadlines, timeouts, has_passed}
use Rattle.wf_rules.specs.Acts.{Turn, make, made, births, started}
use Rattle.wf_rules.specs.Scheduling.{fails}
use Rattle.wf_rules.specs.Rules.{pick, is_add, Room, room, store_full, fitted_child, fitted, allowed, choose, rule, after, rules_at_most, decide}
use Rattle.wf_rules.specs.Plans.{Numbers, turn_at, planned, plan, new_task, new_flow, new_tasks, new_flows, is_of_sub_flow, is_sub, is_between, due_moments, PlanHolds, AllBelow, IsLater}
use Rattle.wf_rules.proofs.SightLemmas.{shown, sight_make}

-- ---- a plan at its own moment

pub made_append : (e : ℕ) (xs ys : List Act) (t : Turn) → made e (xs ++ ys) t ≡ made e ys (made e xs t)
made_append e [] ys t = refl
made_append e (x ∷ xs) ys t = made_append e xs ys (make e x t)

made_planned : (limits : Limits) (scene : Scene) (kept e n : ℕ) (t : Turn) → made e (planned limits scene kept e n t) t ≡ after limits scene kept e n t
unfolding rule
made_planned limits scene kept e zero t = refl
made_planned limits scene kept e (suc n) t = by_choice (choose limits scene kept e t) (λ u. made_planned limits scene kept e n u) where
  by_choice : (o : Option (List Act)) → ((u : Turn) → made e (planned limits scene kept e n u) u ≡ after limits scene kept e n u)
      → made e (option_map_or (λ acts. acts ++ planned limits scene kept e n (made e acts t)) o []) t
      ≡ option_map_or (λ next. after limits scene kept e n next) (option_map (λ acts. made e acts t) o) t
  by_choice None h = refl
  by_choice (Some acts) h = made_append e acts (planned limits scene kept e n (made e acts t)) t ∙ h (made e acts t)

-- what a rule does comes first in a plan
pub planned_more : (limits : Limits) (scene : Scene) (kept e n : ℕ) (t : Turn) (acts : List Act) → choose limits scene kept e t ≡ Some acts
    → planned limits scene kept e (suc n) t ≡ acts ++ planned limits scene kept e n (made e acts t)
planned_more limits scene kept e n t acts is = rw is refl

-- a plan ends where no rule applies
pub planned_none : (limits : Limits) (scene : Scene) (kept e n : ℕ) (t : Turn) → choose limits scene kept e t ≡ None → planned limits scene kept e n t ≡ []
planned_none limits scene kept e zero t is = refl
planned_none limits scene kept e (suc n) t is = rw is refl

pub plan_decides : (limits : Limits) (scene : Scene) (kept e : ℕ) (t : Turn) → made e (plan limits scene kept e t) t ≡ decide limits scene kept e t
unfolding plan decide
plan_decides limits scene kept e t = made_planned limits scene kept e (rules_at_most limits t) t

-- ---- numbers

pub below_mono : (n m : ℕ) (cs : List ChildState) → n ≤ m → AllBelow n cs → AllBelow m cs
below_mono n m [] le h = tt
below_mono n m (c ∷ cs) le h = (let lt = h.0 in omega (arith, lt), below_mono n m cs le h.1)

make_tasks : (e : ℕ) (act : Act) (t : Turn) → (make e act t).next_task ≡ t.next_task + new_task act
make_tasks e (Add n) t = refl
make_tasks e (Close p o r out) t = omega arith
make_tasks e (Note p x r) t = omega arith
make_tasks e (Forgive p) t = omega arith
make_tasks e (TurnOn p out turn) t = omega arith
make_tasks e (Variables v) t = omega arith
make_tasks e (NoteFlow r) t = omega arith
make_tasks e (End s r out) t = omega arith

make_flows : (e : ℕ) (act : Act) (t : Turn) → (make e act t).next_flow ≡ t.next_flow + new_flow act
make_flows e (Add n) t = refl
make_flows e (Close p o r out) t = omega arith
make_flows e (Note p x r) t = omega arith
make_flows e (Forgive p) t = omega arith
make_flows e (TurnOn p out turn) t = omega arith
make_flows e (Variables v) t = omega arith
make_flows e (NoteFlow r) t = omega arith
make_flows e (End s r out) t = omega arith

one_born : (e : ℕ) (t : Turn) (child : Child) → length (started e t child) ≡ births child
one_born e t Nothing = refl
one_born e t (NewFlow def input) = refl
one_born e t TooLarge = refl
one_born e t Refused = refl

make_children : (e : ℕ) (act : Act) (t : Turn) → length (make e act t).children ≡ length t.children + new_flow act
make_children e (Add n) t = let l = length-append t.children (started e t n.child) in let k = one_born e t n.child in omega (arith, l, k)
make_children e (Close p o r out) t = omega arith
make_children e (Note p x r) t = omega arith
make_children e (Forgive p) t = omega arith
make_children e (TurnOn p out turn) t = omega arith
make_children e (Variables v) t = omega arith
make_children e (NoteFlow r) t = omega arith
make_children e (End s r out) t = omega arith

pub made_tasks : (e : ℕ) (acts : List Act) (t : Turn) → (made e acts t).next_task ≡ t.next_task + new_tasks acts
made_tasks e [] t = omega arith
made_tasks e (act ∷ rest) t = let h = made_tasks e rest (make e act t) in let k = make_tasks e act t in omega (arith, h, k)

pub made_flows : (e : ℕ) (acts : List Act) (t : Turn) → (made e acts t).next_flow ≡ t.next_flow + new_flows acts
made_flows e [] t = omega arith
made_flows e (act ∷ rest) t = let h = made_flows e rest (make e act t) in let k = make_flows e act t in omega (arith, h, k)

new_tasks_append : (xs ys : List Act) → new_tasks (xs ++ ys) ≡ new_tasks xs + new_tasks ys
new_tasks_append [] ys = omega arith
new_tasks_append (x ∷ xs) ys = let h = new_tasks_append xs ys in omega (arith, h)

new_flows_append : (xs ys : List Act) → new_flows (xs ++ ys) ≡ new_flows xs + new_flows ys
new_flows_append [] ys = omega arith
new_flows_append (x ∷ xs) ys = let h = new_flows_append xs ys in omega (arith, h)

-- ---- tests of lists

or_left : (b c : Bool) → b ≡ true → (b || c) ≡ true
or_left true c h = refl
or_left false c h = cc

or_right : (b c : Bool) → c ≡ true → (b || c) ≡ true
or_right true c h = refl
or_right false c h = h

pub or_false : (b c : Bool) → (b || c) ≡ false → (b ≡ false) × (c ≡ false)
or_false true c h = cc
or_false false c h = (refl, h)

pub any_left : {T : Type 0} (p : T → Bool) (xs ys : List T) → list_any p xs ≡ true → list_any p (xs ++ ys) ≡ true
any_left p [] ys h = cc
any_left p (x ∷ xs) ys h = by_first (p x) h (any_left p xs ys) where
  by_first : (b : Bool) → (b || list_any p xs) ≡ true → (list_any p xs ≡ true → list_any p (xs ++ ys) ≡ true) → (b || list_any p (xs ++ ys)) ≡ true
  by_first true h on = refl
  by_first false h on = on h

pub any_right : {T : Type 0} (p : T → Bool) (xs ys : List T) → list_any p ys ≡ true → list_any p (xs ++ ys) ≡ true
any_right p [] ys h = h
any_right p (x ∷ xs) ys h = or_right (p x) (list_any p (xs ++ ys)) (any_right p xs ys h)

pub none_left : {T : Type 0} (p : T → Bool) (xs ys : List T) → list_any p (xs ++ ys) ≡ false → list_any p xs ≡ false
none_left p [] ys h = refl
none_left p (x ∷ xs) ys h = by_first (p x) h (none_left p xs ys) where
  by_first : (b : Bool) → (b || list_any p (xs ++ ys)) ≡ false → (list_any p (xs ++ ys) ≡ false → list_any p xs ≡ false) → (b || list_any p xs) ≡ false
  by_first true h on = cc
  by_first false h on = on h

pub none_right : {T : Type 0} (p : T → Bool) (xs ys : List T) → list_any p (xs ++ ys) ≡ false → list_any p ys ≡ false
none_right p [] ys h = h
none_right p (x ∷ xs) ys h = none_right p xs ys (or_false (p x) (list_any p (xs ++ ys)) h).1

-- ---- what the numbers allow

-- what a rule may do in the room r it may do in the room s, by what it asks of both
record Roomy (r s : Room) (acts : List Act) : Type 0 where
  full : list_any is_sub acts ≡ true → r.full ≡ s.full
  up : r.unnumbered ≡ true → s.unnumbered ≡ true
  down : 0 < new_flows acts → s.unnumbered ≡ false

abbrev no_place : Bool → NewAttempt → NewAttempt
no_place b n = if b then store_full n else n

-- a SUB_WORKFLOW is one in any room
sub_in : (b : Bool) (n : NewAttempt) → is_of_sub_flow n.child ≡ true → is_sub (Add (no_place b n)) ≡ true
sub_in true n h = refl
sub_in false n h = h

child_same : (r s : Room) (n : NewAttempt) (child : Child) → n.child ≡ child → (is_sub (Add (fitted_child r n child)) ≡ true → r.full ≡ s.full)
    → (r.unnumbered ≡ true → s.unnumbered ≡ true) → (0 < births (fitted_child r n child).child → s.unnumbered ≡ false) → fitted_child r n child ≡ fitted_child s n child
child_same r s n Nothing is full up down = refl
child_same r s n Refused is full up down = refl
child_same r s n TooLarge is full up down = let same = full (sub_in r.full n (rw is refl)) in rw same refl
child_same r s n (NewFlow def input) is full up down =
    let same = full (sub_in (r.full || r.unnumbered) n (rw is refl)) in
    by_room r.full r.unnumbered s.full s.unnumbered same up down where
      by_room : (a b c d : Bool) → a ≡ c → (b ≡ true → d ≡ true) → (0 < births (no_place (a || b) n).child → d ≡ false) → no_place (a || b) n ≡ no_place (c || d) n
      by_room true b c d same up down = rw (← same) refl
      by_room false true c d same up down = rw (← same, up refl) refl
      by_room false false c d same up down = rw (← same, down (rw is (omega arith))) refl

fitted_same : (r s : Room) (acts : List Act) → Roomy r s (map (fitted r) acts) → map (fitted r) acts ≡ map (fitted s) acts
fitted_same r s [] h = refl
fitted_same r s (act ∷ rest) h = rw (one act h, fitted_same r s rest (behind act h)) refl where
  behind : (act : Act) → Roomy r s (fitted r act ∷ map (fitted r) rest) → Roomy r s (map (fitted r) rest)
  behind act k = record {
    full = λ x. k.full (or_right (is_sub (fitted r act)) (list_any is_sub (map (fitted r) rest)) x);
    up = k.up;
    down = λ x. k.down (omega (arith, x));
  }

  one : (act : Act) → Roomy r s (fitted r act ∷ map (fitted r) rest) → fitted r act ≡ fitted s act
  one (Add n) k =
      ap Add
      (child_same r s n n.child refl (λ x. k.full (or_left (is_sub (fitted r (Add n))) (list_any is_sub (map (fitted r) rest)) x)) k.up
      (λ x. k.down (omega (arith, x))))
  one (Close p o r out) k = refl
  one (Note p x r) k = refl
  one (Forgive p) k = refl
  one (TurnOn p out turn) k = refl
  one (Variables v) k = refl
  one (NoteFlow r) k = refl
  one (End s r out) k = refl

fitted_adds : (r : Room) (acts : List Act) → list_any is_add acts ≡ true → 0 < new_tasks (map (fitted r) acts)
fitted_adds r [] h = cc
fitted_adds r (Add n ∷ rest) h = omega arith
fitted_adds r (Close p o x out ∷ rest) h = let k = fitted_adds r rest h in omega (arith, k)
fitted_adds r (Note p x y ∷ rest) h = let k = fitted_adds r rest h in omega (arith, k)
fitted_adds r (Forgive p ∷ rest) h = let k = fitted_adds r rest h in omega (arith, k)
fitted_adds r (TurnOn p out turn ∷ rest) h = let k = fitted_adds r rest h in omega (arith, k)
fitted_adds r (Variables v ∷ rest) h = let k = fitted_adds r rest h in omega (arith, k)
fitted_adds r (NoteFlow x ∷ rest) h = let k = fitted_adds r rest h in omega (arith, k)
fitted_adds r (End s x out ∷ rest) h = let k = fitted_adds r rest h in omega (arith, k)

allow_same : (r s : Room) (b c any : Bool) (acts : List Act) → list_any is_add acts ≡ any → (b ≡ true → c ≡ true)
    → (0 < new_tasks (if b && any then fails (codes "numbers spent") None else map (fitted r) acts) → c ≡ false)
    → Roomy r s (if b && any then fails (codes "numbers spent") None else map (fitted r) acts)
    → (if b && any then fails (codes "numbers spent") None else map (fitted r) acts) ≡ (if c && any then fails (codes "numbers spent") None else map (fitted s) acts)
allow_same r s true true true acts h spent tasks roomy = refl
allow_same r s true true false acts h spent tasks roomy = fitted_same r s acts roomy
allow_same r s true false any acts h spent tasks roomy = let k = spent refl in cc
allow_same r s false false any acts h spent tasks roomy = fitted_same r s acts roomy
allow_same r s false true true acts h spent tasks roomy = let k = tasks (fitted_adds r acts h) in cc
allow_same r s false true false acts h spent tasks roomy = fitted_same r s acts roomy

-- ---- two turns that look alike

record IsAlike (m e : ℕ) (cs : List ChildState) (t u : Turn) : Type 0 where
  sights : sight m cs t.flow ≡ sight e cs u.flow
  tasks : t.next_task ≤ u.next_task
  flows : t.next_flow ≤ u.next_flow
  children : length t.children ≡ length u.children
  below : AllBelow t.next_flow cs

alike_make : (m e : ℕ) (cs : List ChildState) (act : Act) (t u : Turn) → IsAlike m e cs t u → IsAlike m e cs (make m act t) (make e act u)
alike_make m e cs act t u h =
    let tasks = h.tasks in let flows = h.flows in let children = h.children in
    let t1 = make_tasks m act t in let u1 = make_tasks e act u in
    let t2 = make_flows m act t in let u2 = make_flows e act u in
    let t3 = make_children m act t in let u3 = make_children e act u in
    record {
      sights = sight_make m cs act t h.below ∙ ap (shown act) h.sights ∙ sym (sight_make e cs act u (below_mono t.next_flow u.next_flow cs h.flows h.below));
      tasks = omega (arith, tasks, t1, u1);
      flows = omega (arith, flows, t2, u2);
      children = omega (arith, children, t3, u3);
      below = below_mono t.next_flow (make m act t).next_flow cs (omega (arith, t2)) h.below;
    }

alike_made : (m e : ℕ) (cs : List ChildState) (acts : List Act) (t u : Turn) → IsAlike m e cs t u → IsAlike m e cs (made m acts t) (made e acts u)
alike_made m e cs [] t u h = h
alike_made m e cs (act ∷ rest) t u h = alike_made m e cs rest (make m act t) (make e act u) (alike_make m e cs act t u h)

-- what the plan's acts ask of the second state
record Allows (kept now_kept : ℕ) (acts : List Act) (u : Turn) : Type 0 where
  flows : list_any is_sub acts ≡ true → now_kept ≡ kept
  tasks : u.next_task + new_tasks acts ≤ 2 ^ 56
  children : u.next_flow + new_flows acts ≤ 2 ^ 56

allowed_same : (limits : Limits) (kept now_kept m e : ℕ) (cs : List ChildState) (wish more : List Act) (t u : Turn) → IsAlike m e cs t u
    → Allows kept now_kept (allowed (room limits kept t) wish ++ more) u → allowed (room limits kept t) wish ≡ allowed (room limits now_kept u) wish
allowed_same limits kept now_kept m e cs wish more t u h k =
    let acts = allowed (room limits kept t) wish in
    let tasks = h.tasks in let flows = h.flows in let children = h.children in
    let a1 = k.tasks in let a2 = k.children in let b1 = new_tasks_append acts more in let b2 = new_flows_append acts more in
    allow_same (room limits kept t) (room limits now_kept u) (nat_le (2 ^ 56) t.next_task) (nat_le (2 ^ 56) u.next_task) (list_any is_add wish) wish refl
    (λ x. grind (arith, nat_tests)) (λ x. grind (arith, nat_tests))
    (record {
      full = λ x. (let same = k.flows (any_left is_sub acts more x) in rw (same, children) refl);
      up = λ x. grind (arith, nat_tests);
      down = λ x. grind (arith, nat_tests);
    })

allows_rest : (kept now_kept e : ℕ) (acts more : List Act) (u : Turn) → Allows kept now_kept (acts ++ more) u → Allows kept now_kept more (made e acts u)
allows_rest kept now_kept e acts more u k =
    let a1 = k.tasks in let a2 = k.children in let b1 = new_tasks_append acts more in let b2 = new_flows_append acts more in
    let c1 = made_tasks e acts u in let c2 = made_flows e acts u in
    record {
      flows = λ x. k.flows (any_right is_sub acts more x);
      tasks = omega (arith, a1, b1, c1);
      children = omega (arith, a2, b2, c2);
    }

same_plan : (limits : Limits) (scene : Scene) (kept now_kept m e n : ℕ) (t u : Turn) → IsAlike m e scene.children t u
    → Allows kept now_kept (planned limits scene kept m n t) u → planned limits scene kept m n t ≡ planned limits scene now_kept e n u
same_plan limits scene kept now_kept m e zero t u h k = refl
same_plan limits scene kept now_kept m e (suc n) t u h k =
    rw (← h.sights) (by_pick (pick limits scene (sight m scene.children t.flow)) k (λ x y. same_plan limits scene kept now_kept m e n x y)) where
      by_pick : (o : Option (List Act))
          → Allows kept now_kept (option_map_or (λ acts. acts ++ planned limits scene kept m n (made m acts t)) (option_map (allowed (room limits kept t)) o) []) u
          → ((x y : Turn) → IsAlike m e scene.children x y → Allows kept now_kept (planned limits scene kept m n x) y
          → planned limits scene kept m n x ≡ planned limits scene now_kept e n y)
          → option_map_or (λ acts. acts ++ planned limits scene kept m n (made m acts t)) (option_map (allowed (room limits kept t)) o) []
          ≡ option_map_or (λ acts. acts ++ planned limits scene now_kept e n (made e acts u)) (option_map (allowed (room limits now_kept u)) o) []
      by_pick None k on = refl
      by_pick (Some wish) k on =
          let acts = allowed (room limits kept t) wish in
          let more = planned limits scene kept m n (made m acts t) in
          let same = allowed_same limits kept now_kept m e scene.children wish more t u h k in
          ap (λ xs. acts ++ xs) (on (made m acts t) (made e acts u) (alike_made m e scene.children acts t u h) (allows_rest kept now_kept e acts more u k))
          ∙ ap (λ xs. xs ++ planned limits scene now_kept e n (made e xs u)) same

-- ---- without a deadline between the two moments the flow looks the same

not_between : (m e x : ℕ) → is_between m e x ≡ false → nat_le x m ≡ nat_le x e
not_between m e x h = grind (arith, nat_tests)

same_passed : (m e : ℕ) (ds : List (ℕ × Cause)) → list_any (is_between m e) (map (λ (d : ℕ × Cause). d.0) ds) ≡ false → filter (has_passed m) ds ≡ filter (has_passed e) ds
same_passed m e [] h = refl
same_passed m e (d ∷ ds) h =
    let both = or_false (is_between m e d.0) _ h in
    rw (not_between m e d.0 both.0, same_passed m e ds both.1) refl

moments_append : (xs ys : List (ℕ × Cause)) → map (λ (d : ℕ × Cause). d.0) (xs ++ ys) ≡ map (λ (d : ℕ × Cause). d.0) xs ++ map (λ (d : ℕ × Cause). d.0) ys
moments_append [] ys = refl
moments_append (x ∷ xs) ys = ap (λ zs. x.0 ∷ zs) (moments_append xs ys)

same_due : (m e : ℕ) (xs : List Attempt) → list_any (is_between m e) (map (λ (d : ℕ × Cause). d.0) (all_deadlines xs)) ≡ false → map (due m) xs ≡ map (due e) xs
same_due m e [] h = refl
same_due m e (a ∷ xs) h =
    let moment : ℕ × Cause → ℕ = λ d. d.0 in
    let apart : list_any (is_between m e) (map moment (deadlines a) ++ map moment (all_deadlines xs)) ≡ false = ap (list_any (is_between m e)) (sym (moments_append (deadlines a) (all_deadlines xs))) ∙ h in
    let one = same_passed m e (deadlines a) (none_left (is_between m e) (map moment (deadlines a)) (map moment (all_deadlines xs)) apart) in
    let more = same_due m e xs (none_right (is_between m e) (map moment (deadlines a)) (map moment (all_deadlines xs)) apart) in
    rw (one, more) refl

same_over : (m e : ℕ) (ds : List ℕ) → list_any (is_between m e) ds ≡ false → list_any (λ d. nat_le d m) ds ≡ list_any (λ d. nat_le d e) ds
same_over m e [] h = refl
same_over m e (d ∷ ds) h =
    let both = or_false (is_between m e d) _ h in
    rw (not_between m e d both.0, same_over m e ds both.1) refl

same_sight : (m e : ℕ) (cs : List ChildState) (flow : Flow) → list_any (is_between m e) (due_moments flow) ≡ false → sight m cs flow ≡ sight e cs flow
unfolding sight
same_sight m e cs flow h =
    let moments = map (λ (d : ℕ × Cause). d.0) (all_deadlines flow.attempts) in
    let one = same_over m e (timeouts flow) (none_left (is_between m e) (timeouts flow) moments h) in
    let more = same_due m e flow.attempts (none_right (is_between m e) (timeouts flow) moments h) in
    rw (one, more) refl

pub plan_holds : (limits : Limits) (scene : Scene) (kept now_kept m e : ℕ) (flow : Flow) (old now : Numbers) → IsLater scene old now
    → PlanHolds (plan limits scene kept m (turn_at flow old)) flow m e kept now_kept now
    → plan limits scene kept m (turn_at flow old) ≡ plan limits scene now_kept e (turn_at flow now)
unfolding plan
plan_holds limits scene kept now_kept m e flow old now later holds =
    same_plan limits scene kept now_kept m e (rules_at_most limits (turn_at flow old)) (turn_at flow old) (turn_at flow now)
    (record {
      sights = same_sight m e scene.children flow holds.deadlines;
      tasks = later.tasks;
      flows = later.flows;
      children = refl;
      below = later.children;
    })
    (record { flows = holds.flows; tasks = holds.tasks; children = holds.children })

pub plan_decides_later : (limits : Limits) (scene : Scene) (kept now_kept m e : ℕ) (flow : Flow) (old now : Numbers) → IsLater scene old now
    → PlanHolds (plan limits scene kept m (turn_at flow old)) flow m e kept now_kept now
    → made e (plan limits scene kept m (turn_at flow old)) (turn_at flow now) ≡ decide limits scene now_kept e (turn_at flow now)
plan_decides_later limits scene kept now_kept m e flow old now later holds =
    ap (λ acts. made e acts (turn_at flow now)) (plan_holds limits scene kept now_kept m e flow old now later holds)
    ∙ plan_decides limits scene now_kept e (turn_at flow now)
