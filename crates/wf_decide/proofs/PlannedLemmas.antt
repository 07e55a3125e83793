-- Plans: that they can be made, and that they apply where they were made.
use Rattle.std.proofs.Common.{◌≡◌, ◌∙◌, sym, ap, refl, subst, ℕ, zero, suc, ◌+◌, ◌≤◌, ◌^◌, false, List, [], ◌∷◌, ◌++◌, Option, None, Some, add-one, append_assoc, append-nil, arith}
use Rattle.std.proofs.lemmas.Bool.Decides.{nat_tests}
use Rattle.std.specs.Prelude.{option_map}
use Rattle.std.specs.List.{list_any}
use Rattle.std.specs.Option.{option_map_or}
use Rattle.wf_wire.specs.declared.limits.Limits.{Limits}
use Rattle.wf_machine.specs.State.{Flow}
use Rattle.wf_rules.specs.declared.acting.Act.{Act}
use Rattle.wf_rules.specs.Acts.{Turn, make, made}
use Rattle.wf_rules.specs.Making.{CanMakeAll}
use Rattle.wf_rules.specs.Plans.{AllBelow, Numbers, PlanHolds, due_moments, is_between, new_flows, new_tasks, plan, planned, turn_at}
use Rattle.wf_rules.specs.Rules.{after, choose, decide, rule, rules_at_most}
use Rattle.wf_rules.specs.Sight.{Scene}
use Rattle.wf_rules.proofs.PlanLemmas.{below_mono, made_flows, made_tasks, plan_decides, plan_holds, planned_more, planned_none}
use Rattle.wf_rules.proofs.WantLemmas.{chosen_fits}
use Rattle.wf_decide.specs.Planning.{Applies, Planned, numbers_at}
use Rattle.wf_decide.proofs.DecideLemmas.{chosen_flows, chosen_tasks}

-- ---- gathering

-- the acts of one rule more
pub gathered : (limits : Limits) (scene : Scene) (kept e left more : ℕ) (t u : Turn) (before acts after whole : List Act) → more ≡ left + 1
    → choose limits scene kept e t ≡ Some acts → u ≡ made e acts t → after ≡ before ++ acts
    → before ++ planned limits scene kept e more t ≡ whole → after ++ planned limits scene kept e left u ≡ whole
gathered limits scene kept e left more t u before acts after whole count is made_is after_is all =
    let more_is : planned limits scene kept e more t ≡ acts ++ planned limits scene kept e left (made e acts t) =
    rw (count, add-one) (planned_more limits scene kept e left t acts is) in
    rw (after_is, made_is) (append_assoc before acts (planned limits scene kept e left (made e acts t)) ∙ ap (λ xs. before ++ xs) (sym more_is) ∙ all)

-- none applies
pub gathered_all : (limits : Limits) (scene : Scene) (kept e left : ℕ) (t : Turn) (before whole : List Act) → choose limits scene kept e t ≡ None
    → before ++ planned limits scene kept e left t ≡ whole → before ≡ whole
gathered_all limits scene kept e left t before whole is all =
    sym (append-nil before) ∙ ap (λ xs. before ++ xs) (sym (planned_none limits scene kept e left t is)) ∙ all

-- as many rules as can apply
pub plan_whole : (limits : Limits) (scene : Scene) (kept e most : ℕ) (t : Turn) → most ≡ rules_at_most limits t → planned limits scene kept e most t ≡ plan limits scene kept e t
unfolding plan
plan_whole limits scene kept e most t count = ap (λ n. planned limits scene kept e n t) count

-- ---- making

fits_append : (e : ℕ) (xs ys : List Act) (t : Turn) → CanMakeAll e xs t → CanMakeAll e ys (made e xs t) → CanMakeAll e (xs ++ ys) t
fits_append e [] ys t h k = k
fits_append e (x ∷ xs) ys t h k = (h.0, fits_append e xs ys (make e x t) h.1 k)

planned_fits : (limits : Limits) (scene : Scene) (kept e n : ℕ) (t : Turn) → AllBelow t.next_flow scene.children → CanMakeAll e (planned limits scene kept e n t) t
planned_fits limits scene kept e zero t below = tt
planned_fits limits scene kept e (suc n) t below = by_choice (choose limits scene kept e t) refl (λ u b. planned_fits limits scene kept e n u b) where
  by_choice : (o : Option (List Act)) → choose limits scene kept e t ≡ o
      → ((u : Turn) → AllBelow u.next_flow scene.children → CanMakeAll e (planned limits scene kept e n u) u)
      → CanMakeAll e (option_map_or (λ acts. acts ++ planned limits scene kept e n (made e acts t)) o []) t
  by_choice None is on = tt
  by_choice (Some acts) is on =
      fits_append e acts (planned limits scene kept e n (made e acts t)) t (chosen_fits limits scene kept e t acts below is)
      (on (made e acts t) (below_mono t.next_flow (made e acts t).next_flow scene.children (let k = made_flows e acts t in omega (arith, k)) below))

plan_fits : (limits : Limits) (scene : Scene) (kept e : ℕ) (t : Turn) → AllBelow t.next_flow scene.children → CanMakeAll e (plan limits scene kept e t) t
unfolding plan
plan_fits limits scene kept e t below = planned_fits limits scene kept e (rules_at_most limits t) t below

-- ---- a plan that applies

as_it_starts : (t : Turn) → t.children ≡ [] → turn_at t.flow (numbers_at t) ≡ t
as_it_starts t fresh = ap (λ (children : List Flow). record { flow = t.flow; children = children; next_flow = t.next_flow; next_task = t.next_task }) (sym fresh)

-- it is the plan that would be made now
still : (p : Planned) (e : ℕ) (t : Turn) (h : Applies p e t) → p.acts ≡ plan h.limits h.scene h.kept e t
still p e t h =
    let holds : PlanHolds (plan h.limits h.scene p.kept p.moment (turn_at t.flow h.old)) t.flow p.moment e p.kept h.kept (numbers_at t) =
    subst (λ acts. PlanHolds acts t.flow p.moment e p.kept h.kept (numbers_at t)) h.acts h.holds in
    h.acts ∙ plan_holds h.limits h.scene p.kept h.kept p.moment e t.flow h.old (numbers_at t) h.later holds
    ∙ ap (λ u. plan h.limits h.scene h.kept e u) (as_it_starts t h.fresh)

pub applied_fits : (p : Planned) (e : ℕ) (t : Turn) → Applies p e t → CanMakeAll e p.acts t
applied_fits p e t h =
    let flows = h.later.flows in
    subst (λ acts. CanMakeAll e acts t) (sym (still p e t h))
    (plan_fits h.limits h.scene h.kept e t (below_mono h.old.flow t.next_flow h.scene.children (omega (arith, flows)) h.later.children))

pub applied_tasks : (p : Planned) (e : ℕ) (t : Turn) → Applies p e t → t.next_task + new_tasks p.acts ≤ 2 ^ 56
applied_tasks p e t h = h.holds.tasks

pub applied_flows : (p : Planned) (e : ℕ) (t : Turn) → Applies p e t → t.next_flow + new_flows p.acts ≤ 2 ^ 56
applied_flows p e t h = h.holds.children

-- what it makes is what is decided
pub applied_decides : (p : Planned) (e : ℕ) (t u : Turn) (h : Applies p e t) → u ≡ made e p.acts t → u ≡ decide h.limits h.scene h.kept e t
applied_decides p e t u h is = is ∙ ap (λ acts. made e acts t) (still p e t h) ∙ plan_decides h.limits h.scene h.kept e t

-- ---- where it was made

after_numbers : (limits : Limits) (scene : Scene) (kept e n : ℕ) (t : Turn) → t.next_task ≤ 2 ^ 56 → t.next_flow ≤ 2 ^ 56
    → ((after limits scene kept e n t).next_task ≤ 2 ^ 56) × ((after limits scene kept e n t).next_flow ≤ 2 ^ 56)
unfolding rule
after_numbers limits scene kept e zero t tasks flows = (tasks, flows)
after_numbers limits scene kept e (suc n) t tasks flows = by_choice (choose limits scene kept e t) refl (λ u a b. after_numbers limits scene kept e n u a b) where
  by_choice : (o : Option (List Act)) → choose limits scene kept e t ≡ o
      → ((u : Turn) → u.next_task ≤ 2 ^ 56 → u.next_flow ≤ 2 ^ 56
      → ((after limits scene kept e n u).next_task ≤ 2 ^ 56) × ((after limits scene kept e n u).next_flow ≤ 2 ^ 56))
      → ((option_map_or (λ next. after limits scene kept e n next) (option_map (λ acts. made e acts t) o) t).next_task ≤ 2 ^ 56)
      × ((option_map_or (λ next. after limits scene kept e n next) (option_map (λ acts. made e acts t) o) t).next_flow ≤ 2 ^ 56)
  by_choice None is on = (tasks, flows)
  by_choice (Some acts) is on =
      on (made e acts t) (let h = made_tasks e acts t in let k = chosen_tasks limits scene kept e t acts is tasks flows in omega (arith, h, k))
      (let h = made_flows e acts t in let k = chosen_flows limits scene kept e t acts is tasks flows in omega (arith, h, k))

-- the numbers that a plan takes are there
plan_numbers : (limits : Limits) (scene : Scene) (kept e : ℕ) (t : Turn) → t.next_task ≤ 2 ^ 56 → t.next_flow ≤ 2 ^ 56
    → (t.next_task + new_tasks (plan limits scene kept e t) ≤ 2 ^ 56) × (t.next_flow + new_flows (plan limits scene kept e t) ≤ 2 ^ 56)
unfolding decide
plan_numbers limits scene kept e t tasks flows =
    let acts = plan limits scene kept e t in
    let done = after_numbers limits scene kept e (rules_at_most limits t) t tasks flows in
    let same : made e acts t ≡ after limits scene kept e (rules_at_most limits t) t = plan_decides limits scene kept e t in
    let a = made_tasks e acts t in let b = ap (λ (u : Turn). u.next_task) same in
    let c = made_flows e acts t in let d = ap (λ (u : Turn). u.next_flow) same in
    let x = done.0 in let y = done.1 in
    (omega (arith, a, b, x), omega (arith, c, d, y))

never_between : (e d : ℕ) → is_between e e d ≡ false
never_between e d = grind (arith, nat_tests)

none_between : (e : ℕ) (ds : List ℕ) → list_any (is_between e e) ds ≡ false
none_between e [] = refl
none_between e (d ∷ ds) = rw (never_between e d) (none_between e ds)

pub applies_at_once : (limits : Limits) (scene : Scene) (flow : Flow) (next : Numbers) (p : Planned) → next.task ≤ 2 ^ 56 → next.flow ≤ 2 ^ 56
    → AllBelow next.flow scene.children → p.acts ≡ plan limits scene p.kept p.moment (turn_at flow next) → Applies p p.moment (turn_at flow next)
applies_at_once limits scene flow next p tasks flows below is =
    let few = plan_numbers limits scene p.kept p.moment (turn_at flow next) tasks flows in
    record {
      limits = limits;
      scene = scene;
      old = next;
      kept = p.kept;
      fresh = refl;
      acts = is;
      later = record { tasks = omega arith; flows = omega arith; children = below };
      holds = record {
        flows = λ h. refl;
        tasks = subst (λ acts. next.task + new_tasks acts ≤ 2 ^ 56) (sym is) few.0;
        children = subst (λ acts. next.flow + new_flows acts ≤ 2 ^ 56) (sym is) few.1;
        deadlines = none_between p.moment (due_moments flow);
      };
    }
