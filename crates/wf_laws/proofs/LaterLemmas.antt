-- Numbers that were given stay given.
use Rattle.std.proofs.Common.{◌≡◌, ℕ, ◌+◌, ◌<◌, ◌≤◌, Bool, true, false, if◌then◌else◌, is_some, ◌==◌, ◌||◌, List, [], ◌∷◌, ◌++◌, map, Some, refl, sym, ap, ◌∙◌, subst, arith}
use Rattle.std.proofs.lemmas.Bool.Decides.{nat_tests}
use Rattle.std.specs.Prelude.{filter}
use Rattle.std.specs.List.{find}
use Rattle.wf_names.specs.declared.ids.FlowNo.{FlowNo}
use Rattle.wf_names.specs.declared.ids.TaskNo.{TaskNo}
use Rattle.wf_machine.specs.State.{Flow, Kept, State}
use Rattle.wf_machine.specs.Flows.{emptied, is_flow, is_other, new_kept, removed, revised}
use Rattle.wf_rules.specs.Acts.{Turn}
use Rattle.wf_laws.specs.Sound.{FlowsRise, IsLater, IsSound, is_kept, tally}
use Rattle.wf_laws.proofs.SoundLemmas.{IsLeft, Stands, born_rise, count, counts_tally, left_count, revised_number, rise_least}
use Rattle.wf_laws.proofs.OperatorLemmas.{removed_count}

-- ---- kept flows by number

kept_append : (number : FlowNo) (xs ys : List Kept) → is_kept number (xs ++ ys) ≡ (is_kept number xs || is_kept number ys)
kept_append number [] ys = refl
kept_append number (x ∷ xs) ys = by_test (is_flow number x) (kept_append number xs ys) where
  by_test : (b : Bool) → is_kept number (xs ++ ys) ≡ (is_kept number xs || is_kept number ys)
      → is_some (if b then Some x else find (is_flow number) (xs ++ ys)) ≡ (is_some (if b then Some x else find (is_flow number) xs) || is_kept number ys)
  by_test true more = refl
  by_test false more = more

kept_revised : (number : FlowNo) (place : ℕ) (before now : Flow) (xs : List Kept) → is_kept number (map (revised place before now) xs) ≡ is_kept number xs
kept_revised number place before now [] = refl
kept_revised number place before now (x ∷ xs) =
    let same : is_flow number (revised place before now x) ≡ is_flow number x = ap (λ n. n == number.0) (revised_number place before now x) in
    rw same (by_test (is_flow number x) (kept_revised number place before now xs))
  where
    by_test : (b : Bool) → is_kept number (map (revised place before now) xs) ≡ is_kept number xs
        → is_some (if b then Some (revised place before now x) else find (is_flow number) (map (revised place before now) xs)) ≡ is_some (if b then Some x else find (is_flow number) xs)
    by_test true more = refl
    by_test false more = more

kept_ahead : (number : FlowNo) (low high : ℕ) (xs : List Kept) → FlowsRise low high xs → number.0 < low → is_kept number xs ≡ false
kept_ahead number low high [] rise below = refl
kept_ahead number low high (x ∷ xs) rise below =
    let le = rise.0 in
    let other : is_flow number x ≡ false = grind (arith, nat_tests) in
    rw other (kept_ahead number (x.flow.number.0 + 1) high xs rise.1 (omega (arith, le, below)))

kept_filter : (number : FlowNo) (p : Kept → Bool) (xs : List Kept) → is_kept number (filter p xs) ≡ true → is_kept number xs ≡ true
kept_filter number p [] there = there
kept_filter number p (x ∷ xs) there = by_test (p x) (kept_filter number p xs) there where
  here : (b : Bool) → (is_kept number (filter p xs) ≡ true → is_kept number xs ≡ true)
      → is_some (if b then Some x else find (is_flow number) (filter p xs)) ≡ true → is_some (if b then Some x else find (is_flow number) xs) ≡ true
  here true more there = refl
  here false more there = more there

  behind : (b : Bool) → is_kept number xs ≡ true → is_some (if b then Some x else find (is_flow number) xs) ≡ true
  behind true there = refl
  behind false there = there

  by_test : (b : Bool) → (is_kept number (filter p xs) ≡ true → is_kept number xs ≡ true)
      → is_kept number (if b then x ∷ filter p xs else filter p xs) ≡ true → is_kept number (x ∷ xs) ≡ true
  by_test true more there = here (is_flow number x) more there
  by_test false more there = behind (is_flow number x) (more there)

-- ---- states

only : (a b : Bool) → b ≡ false → (a || b) ≡ true → a ≡ true
only true b none there = refl
only false b none there = sym none ∙ there

pub same_later : {s t : State} → t.flows ≡ s.flows → t.next_flow ≡ s.next_flow → t.next_task ≡ s.next_task → IsLater s t
same_later {s} {t} flows next_flow next_task = record {
  next_flow = rw next_flow (omega arith);
  next_task = rw next_task (omega arith);
  flows = λ number old. rw flows (λ there. there);
  tasks = λ task old. rw flows (omega arith);
}

pub later_still : {s t u : State} → IsLater s t → IsLater t u → IsLater s u
later_still {s} {t} {u} first second =
    let flows_rise = first.next_flow in
    let flows_on = second.next_flow in
    let tasks_rise = first.next_task in
    let tasks_on = second.next_task in
    record {
      next_flow = omega (arith, flows_rise, flows_on);
      next_task = omega (arith, tasks_rise, tasks_on);
      flows = λ number old there. first.flows number old (second.flows number (omega (arith, old, flows_rise)) there);
      tasks = λ task old. (let a = first.tasks task old in let b = second.tasks task (omega (arith, old, tasks_rise)) in omega (arith, a, b));
    }

-- a flow is kept behind the others under the next number
pub new_later : (place : ℕ) (s : State) (f : Flow) → f.number.0 ≡ s.next_flow → f.attempts ≡ []
    → IsLater s (record s { next_flow = s.next_flow + 1; flows = s.flows ++ new_kept place f ∷ [] })
new_later place s f number none = record {
  next_flow = omega arith;
  next_task = omega arith;
  flows = λ given old there. (
      let ahead = kept_ahead given s.next_flow (s.next_flow + 1) (new_kept place f ∷ []) (rw number (omega arith, omega arith)) old in
      only (is_kept given s.flows) (is_kept given (new_kept place f ∷ [])) ahead (sym (kept_append given s.flows (new_kept place f ∷ [])) ∙ there)
      );
  tasks = λ task old. tally_new task s.flows;
} where
  tally_new : (task : TaskNo) (ks : List Kept) → tally task (ks ++ new_kept place f ∷ []) ≤ tally task ks
  tally_new task [] = rw none (omega arith)
  tally_new task (k ∷ ks) = let more = tally_new task ks in omega (arith, more)

module _ (place : ℕ) (before : Flow) (s t : State) (k : Kept) (turn : Turn) (sound : IsSound s) (left : IsLeft place before s t k turn) where
  left_kept : (number : FlowNo) → number.0 < s.next_flow → is_kept number t.flows ≡ true → is_kept number s.flows ≡ true
  left_kept number old there =
      let ahead = kept_ahead number s.next_flow turn.next_flow (map (new_kept place) turn.children) (born_rise place s.next_flow turn.next_flow turn.children left.born) old in
      let split = kept_append number (map (revised place before turn.flow) s.flows) (map (new_kept place) turn.children) in
      sym (kept_revised number place before turn.flow s.flows)
      ∙ only (is_kept number (map (revised place before turn.flow) s.flows)) (is_kept number (map (new_kept place) turn.children)) ahead
      (sym split ∙ subst (λ ks. is_kept number ks ≡ true) left.flows there)

  pub left_later : ((task : TaskNo) → task.0 < s.next_task → count true task turn.flow.attempts ≤ count true task k.flow.attempts) → IsLater s t
  left_later few =
      let rise = rise_least s.next_flow turn.next_flow (map (new_kept place) turn.children) (born_rise place s.next_flow turn.next_flow turn.children left.born) in
      let flows_on = left.next_flow in
      let tasks_on = left.next_task in
      let more = left.tasks in
      record {
        next_flow = omega (arith, rise, flows_on);
        next_task = omega (arith, more, tasks_on);
        flows = left_kept;
        tasks = λ task old. (
            let fall = few task old in
            let swap = left_count place before s t k turn sound left true task in
            let was = counts_tally task s.flows in
            let now = counts_tally task t.flows in
            omega (arith, fall, swap, was, now)
            );
      }

pub removed_later : (place e : ℕ) (s : State) (k : Kept) → IsSound s → Stands k s.flows → IsLater s (record s { last = e; flows = removed place k.flow s.flows })
removed_later place e s k sound stands = record {
  next_flow = omega arith;
  next_task = omega arith;
  flows = λ number old there. (
      sym (kept_revised number place k.flow (emptied k.flow) s.flows)
      ∙ kept_filter number (is_other k.flow.number) (map (revised place k.flow (emptied k.flow)) s.flows) there
      );
  tasks = λ task old. (
      let fall = removed_count place e s k sound stands true task in
      let was = counts_tally task s.flows in
      let now = counts_tally task (removed place k.flow s.flows) in
      omega (arith, fall, was, now)
      );
}
