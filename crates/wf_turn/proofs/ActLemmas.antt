-- What acts make of a turn, and what they need.
use Rattle.std.proofs.Common.{◌≡◌, ℕ, ◌+◌, ◌≤◌, ◌^◌, Option, List, [], ◌∷◌, ◌++◌, map, sym, ap, ◌∙◌, subst, arith}
use Rattle.wf_machine.specs.State.{Attempt, Flow, RisingTo}
use Rattle.wf_machine.specs.Sight.{seen}
use Rattle.wf_rules.specs.declared.acting.Act.{Act}
use Rattle.std.specs.Prelude.{option_and_then}
use Rattle.wf_names.specs.declared.ids.FlowNo.{FlowNo}
use Rattle.wf_names.specs.declared.ids.TaskNo.{TaskNo}
use Rattle.wf_machine.specs.Records.{IsMoment, IsRecord}
use Rattle.wf_rules.specs.declared.acting.Act.TheVariants.{Add}
use Rattle.wf_rules.specs.declared.acting.Child.{Child}
use Rattle.wf_rules.specs.declared.acting.NewAttempt.{NewAttempt}
use Rattle.wf_rules.specs.Acts.{Turn, added, begun, child_number, make, made, number_at}
use Rattle.wf_rules.specs.Making.{CanMake, CanMakeAll}
use Rattle.wf_rules.specs.Plans.{new_flows, new_tasks}
use Rattle.wf_rules.specs.Rules.{is_running}
use Rattle.wf_rules.proofs.MakeLemmas.{record_made, rising_added, rising_made}
use Rattle.wf_rules.proofs.PlanLemmas.{made_flows, made_tasks}
use Rattle.wf_turn.specs.Keeping.{IsSoundTurn}

-- an act that makes this flow, and changes no number
pub sound_made : (e : ℕ) (act : Act) (t : Turn) (f : Flow) → IsSoundTurn t → (make e act t).next_task ≡ t.next_task → f ≡ (make e act t).flow → IsSoundTurn (record t { flow = f })
sound_made e act t f kept same is =
    record {
      rising = subst (λ (g : Flow). RisingTo 1 t.next_task g.attempts) (sym is) (subst (λ n. RisingTo 1 n (make e act t).flow.attempts) same (rising_made e 1 act t kept.rising));
      tasks = kept.tasks;
      flows = kept.flows;
    }

-- the numbers after one act
pub tasks_after : (e : ℕ) (act : Act) (rest : List Act) (t u : Turn) → u ≡ make e act t → t.next_task + new_tasks (act ∷ rest) ≡ u.next_task + new_tasks rest
tasks_after e act rest t u is =
    let one = made_tasks e (act ∷ []) t in
    let same = ap (λ (v : Turn). v.next_task) is in
    omega (arith, one, same)

pub flows_after : (e : ℕ) (act : Act) (rest : List Act) (t u : Turn) → u ≡ make e act t → t.next_flow + new_flows (act ∷ rest) ≡ u.next_flow + new_flows rest
flows_after e act rest t u is =
    let one = made_flows e (act ∷ []) t in
    let same = ap (λ (v : Turn). v.next_flow) is in
    omega (arith, one, same)

-- what is left to make, with what it needs
pub record IsMaking (e : ℕ) (whole : Turn) (left : List Act) (t : Turn) : Type 0 where
  pub leads : made e left t ≡ whole
  pub fits : CanMakeAll e left t
  pub tasks : t.next_task + new_tasks left ≤ 2 ^ 56
  pub flows : t.next_flow + new_flows left ≤ 2 ^ 56

pub making_on : (e : ℕ) (whole : Turn) (act : Act) (rest : List Act) (t u : Turn) → IsMaking e whole (act ∷ rest) t → u ≡ make e act t → IsMaking e whole rest u
making_on e whole act rest t u h is =
    let tasks = tasks_after e act rest t u is in
    let flows = flows_after e act rest t u is in
    let tasks_left = h.tasks in
    let flows_left = h.flows in
    record {
      leads = ap (made e rest) is ∙ h.leads;
      fits = subst (CanMakeAll e rest) (sym is) (h.fits).1;
      tasks = omega (arith, tasks, tasks_left);
      flows = omega (arith, flows, flows_left);
    }

-- ---- a new attempt

-- it stands at the end, under the next number
pub sound_put : (t : Turn) (a : Attempt) (xs : List Attempt) → IsSoundTurn t → a.number.0 ≡ t.next_task → t.next_task + 1 ≤ 2 ^ 56 → xs ≡ t.flow.attempts ++ a ∷ []
    → (f : Flow) → f.attempts ≡ xs → IsSoundTurn (record t { flow = f; next_task = t.next_task + 1 })
sound_put t a xs kept number last is f so =
    record {
      rising = subst (λ ys. RisingTo 1 (t.next_task + 1) ys) (sym (so ∙ is))
          (subst (λ n. RisingTo 1 (n + 1) (t.flow.attempts ++ a ∷ [])) number (rising_added 1 t.next_task t.flow.attempts a kept.rising (omega (arith, number))));
      tasks = last;
      flows = kept.flows;
    }

pub begun_added : (e : ℕ) (n : NewAttempt) (t : Turn) (retried : Option TaskNo) (child : Option FlowNo) (wanted : Child) (a : Attempt) → a ≡ begun e n (record { 0 = t.next_task }) retried child
    → retried ≡ option_and_then (λ p. number_at p t.flow.attempts) n.retried → child ≡ child_number t.next_flow wanted → wanted ≡ n.child → a ≡ added e n t
begun_added e n t retried child wanted a is of born as_wanted =
    is
    ∙ ap (λ r. begun e n (record { 0 = t.next_task }) r child) of
    ∙ ap (λ c. begun e n (record { 0 = t.next_task }) (option_and_then (λ p. number_at p t.flow.attempts) n.retried) c) (born ∙ ap (child_number t.next_flow) as_wanted)

pub kept_added : (e : ℕ) (n : NewAttempt) (t u : Turn) (a : Attempt) → IsMoment e → IsRecord t.flow → CanMake t.flow.def (is_running t.flow.status) (map seen t.flow.attempts) (Add n) → u.flow ≡ t.flow
    → a ≡ added e n t → IsRecord (record u.flow { attempts = u.flow.attempts ++ a ∷ [] })
kept_added e n t u a moment kept can same is =
    subst (λ (f : Flow). IsRecord (record f { attempts = f.attempts ++ a ∷ [] })) (sym same)
    (subst (λ (b : Attempt). IsRecord (record t.flow { attempts = t.flow.attempts ++ b ∷ [] })) (sym is) (record_made e (Add n) t moment kept can))
