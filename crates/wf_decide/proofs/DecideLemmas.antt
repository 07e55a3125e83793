-- Rule after rule.
use Rattle.std.proofs.Common.{◌≡◌, ◌∙◌, sym, ap, refl, ℕ, zero, suc, ◌+◌, ◌<◌, ◌≤◌, ◌^◌, true, false, List, [], ◌∷◌, length, None, Some, add-one, arith}
use Rattle.std.specs.Option.{option_map_or}
use Rattle.wf_wire.specs.declared.limits.Limits.{Limits}
use Rattle.wf_machine.specs.Records.{Each, IsInRange}
use Rattle.wf_machine.specs.State.{Attempt, RisingFrom}
use Rattle.wf_rules.specs.declared.acting.Act.{Act}
use Rattle.wf_rules.specs.Acts.{Turn, made}
use Rattle.wf_machine.specs.declared.sight.ChildState.{ChildState}
use Rattle.wf_rules.specs.Plans.{AllBelow, new_flows, new_tasks}
use Rattle.wf_rules.specs.Rules.{after, choose, decide, rule, rules_at_most}
use Rattle.wf_rules.specs.Sight.{Scene}
use Rattle.wf_rules.proofs.CountLemmas.{chosen_numbers}
use Rattle.wf_rules.proofs.PlanLemmas.{below_mono, made_flows}
use Rattle.wf_decide.specs.Deciding.{Steps}

-- ---- the count of attempts

rising_few : (low : ℕ) (xs : List Attempt) → RisingFrom low xs → Each IsInRange xs → 0 < length xs → low + length xs ≤ 2 ^ 56
rising_few low [] rising each some = absurd (omega arith)
rising_few low (x ∷ []) rising each some = let first = rising.0 in let number = each.0.number in omega (arith, first, number)
rising_few low (x ∷ y ∷ rest) rising each some =
    let later = rising_few (x.number.0 + 1) (y ∷ rest) rising.1 each.1 (omega arith) in let first = rising.0 in omega (arith, first, later)

-- attempts whose numbers rise are few
pub few_attempts : (xs : List Attempt) → RisingFrom 1 xs → Each IsInRange xs → length xs ≤ 2 ^ 56
few_attempts [] rising each = omega arith
few_attempts (x ∷ rest) rising each = let h = rising_few 1 (x ∷ rest) rising each (omega arith) in omega (arith, h)

-- ---- one rule

-- what a rule does never runs past the last number
pub chosen_tasks : (limits : Limits) (scene : Scene) (kept e : ℕ) (t : Turn) (acts : List Act) → choose limits scene kept e t ≡ Some acts → t.next_task ≤ 2 ^ 56 → t.next_flow ≤ 2 ^ 56 → t.next_task + new_tasks acts ≤ 2 ^ 56
chosen_tasks limits scene kept e t acts is tasks flows = (chosen_numbers limits scene kept e t acts is tasks flows).0

pub chosen_flows : (limits : Limits) (scene : Scene) (kept e : ℕ) (t : Turn) (acts : List Act) → choose limits scene kept e t ≡ Some acts → t.next_task ≤ 2 ^ 56 → t.next_flow ≤ 2 ^ 56 → t.next_flow + new_flows acts ≤ 2 ^ 56
chosen_flows limits scene kept e t acts is tasks flows = (chosen_numbers limits scene kept e t acts is tasks flows).1

-- numbers of kept flows lie below the next number after acts too
pub below_later : (e : ℕ) (cs : List ChildState) (acts : List Act) (t u : Turn) → u ≡ made e acts t → AllBelow t.next_flow cs → AllBelow u.next_flow cs
below_later e cs acts t u is below =
    rw is (below_mono t.next_flow (made e acts t).next_flow cs (let k = made_flows e acts t in omega (arith, k)) below)

-- a rule applied
pub after_step : (limits : Limits) (scene : Scene) (kept e left more : ℕ) (t u : Turn) → more ≡ left + 1 → Steps limits scene kept e t u true → after limits scene kept e left u ≡ after limits scene kept e more t
after_step limits scene kept e left more t u count step =
    sym (rw (count, add-one) (ap (λ o. option_map_or (λ next. after limits scene kept e left next) o t) step))

settled_by : (limits : Limits) (scene : Scene) (kept e n : ℕ) (t : Turn) → rule limits scene kept e t ≡ None → after limits scene kept e n t ≡ t
settled_by limits scene kept e zero t step = refl
settled_by limits scene kept e (suc n) t step = ap (λ o. option_map_or (λ next. after limits scene kept e n next) o t) step

-- none applies
pub after_settled : (limits : Limits) (scene : Scene) (kept e left : ℕ) (t u : Turn) → Steps limits scene kept e t u false → u ≡ after limits scene kept e left t
after_settled limits scene kept e left t u step = step.1 ∙ sym (settled_by limits scene kept e left t step.0)

-- as many rules as can apply
pub all_rules : (limits : Limits) (scene : Scene) (kept e most : ℕ) (t : Turn) → most ≡ rules_at_most limits t → after limits scene kept e most t ≡ decide limits scene kept e t
unfolding decide
all_rules limits scene kept e most t count = ap (λ n. after limits scene kept e n t) count
