-- What operators do gives a number that was given before to no more attempts.
use Rattle.std.proofs.Common.{◌≡◌, ℕ, ◌<◌, ◌≤◌, Bool, true, false, if◌then◌else◌, List, [], ◌∷◌, ◌++◌, map, Option, None, Some, refl, arith}
use Rattle.std.proofs.lemmas.Bool.Decides.{nat_tests}
use Rattle.std.proofs.lemmas.List.Elements.{All-filter}
use Rattle.std.specs.Option.{option_map_or}
use Rattle.wf_names.specs.declared.ids.TaskNo.{TaskNo}
use Rattle.wf_machine.specs.declared.definition.Node.{Node}
use Rattle.wf_machine.specs.Flows.{emptied, is_other, removed, revised}
use Rattle.wf_machine.specs.Operators.{superseded, superseded_where, is_redone, is_from, node_to_rerun, rerun_from, node_to_skip, skipped_at}
use Rattle.wf_machine.specs.State.{Attempt, Flow, Kept, State, RisingTo, is_numbered}
use Rattle.wf_machine.proofs.OperatorLemmas.{rising_terminated, rising_retried, rising_rerun, rising_skipped}
use Rattle.wf_steps.specs.declared.operation.Operation.{Operation}
use Rattle.wf_steps.specs.declared.operation.Operation.TheVariants.{Terminate, Pause, Resume, Restart, Retry, Rerun, Skip}
use Rattle.wf_steps.specs.Calls.{next_after, operated, stops_flow}
use Rattle.wf_laws.specs.Sound.{IsSound, IsSoundFlow}
use Rattle.wf_laws.proofs.SoundLemmas.{IsChanged, Stands, all_stands, count, count_all, count_append, count_canceled, count_filter, count_swapped, counts_tally, one, one_numbered, raised, rise_filter, rise_revised, sound_revised, unchanged}

-- ---- the next number

pub next_later : (operation : Operation) (next_task : ℕ) → next_task ≤ next_after operation next_task
next_later (Terminate reason) next_task = omega arith
next_later Pause next_task = omega arith
next_later Resume next_task = omega arith
next_later Restart next_task = omega arith
next_later Retry next_task = omega arith
next_later (Rerun task input) next_task = omega arith
next_later (Skip reference input output) next_task = omega arith

-- what ends or pauses a flow takes no number
pub stopped_next : (operation : Operation) (next_task : ℕ) → stops_flow operation ≡ true → next_after operation next_task ≡ next_task
stopped_next (Terminate reason) next_task h = refl
stopped_next Pause next_task h = refl
stopped_next Resume next_task h = refl
stopped_next Restart next_task h = refl
stopped_next Retry next_task h = refl
stopped_next (Rerun task input) next_task h = refl
stopped_next (Skip reference input output) next_task h = cc

-- ---- one flow

operated_rising : (e next_task : ℕ) (operation : Operation) (f : Flow) → 1 ≤ next_task → RisingTo 1 next_task f.attempts
    → RisingTo 1 (next_after operation next_task) (operated e next_task operation f).attempts
operated_rising e next_task (Terminate reason) f some h = rising_terminated 1 next_task e reason f h
operated_rising e next_task Pause f some h = h
operated_rising e next_task Resume f some h = h
operated_rising e next_task Restart f some h = some
operated_rising e next_task Retry f some h = rising_retried 1 next_task e f h
operated_rising e next_task (Rerun task input) f some h = rising_rerun 1 next_task e task input f h
operated_rising e next_task (Skip reference input output) f some h = rising_skipped 1 next_task e reference input output (record { 0 = next_task }) f h (omega arith)

count_superseded : (all : Bool) (task : TaskNo) (test : Attempt → List Attempt → Bool) (xs : List Attempt) → count all task (superseded_where test xs) ≡ count all task xs
count_superseded all task test [] = refl
count_superseded all task test (x ∷ xs) = let h = by_test (test x xs) in let more = count_superseded all task test xs in omega (arith, h, more) where
  by_test : (b : Bool) → one all task (if b then superseded x else x) ≡ one all task x
  by_test true = refl
  by_test false = refl

-- a number that was given before stands in no more attempts, and in no more of those that are SCHEDULED
pub operated_count : (all : Bool) (e next_task : ℕ) (operation : Operation) (f : Flow) (task : TaskNo) → task.0 < next_task
    → count all task (operated e next_task operation f).attempts ≤ count all task f.attempts
operated_count all e next_task (Terminate reason) f task old = count_canceled all task e f.attempts
operated_count all e next_task Pause f task old = omega arith
operated_count all e next_task Resume f task old = omega arith
operated_count all e next_task Restart f task old = omega arith
operated_count all e next_task Retry f task old = let same = count_superseded all task (is_redone f.def) f.attempts in omega (arith, same)
operated_count all e next_task (Rerun number input) f task old = by_node (node_to_rerun f.def number f.attempts) where
  by_node : (o : Option ℕ) → count all task (option_map_or (λ node. rerun_from e input node f) o f).attempts ≤ count all task f.attempts
  by_node None = omega arith
  by_node (Some node) = let same = count_superseded all task (is_from node) f.attempts in omega (arith, same)
operated_count all e next_task (Skip reference input output) f task old = by_node (node_to_skip f.def.nodes reference) where
  by_node : (o : Option Node) → count all task (option_map_or (λ n. record f { attempts = f.attempts ++ skipped_at e (record { 0 = next_task }) input output n ∷ [] }) o f).attempts ≤ count all task f.attempts
  by_node None = omega arith
  by_node (Some n) =
      let new : Attempt = skipped_at e (record { 0 = next_task }) input output n in
      let split = count_append all task f.attempts (new ∷ []) in
      let other : is_numbered task new ≡ false = grind (arith, nat_tests) in
      let none = one_numbered all task new other in
      omega (arith, split, none)

-- its number, its parent and its definition stay
abbrev Stays : Flow → Flow → Type 0
Stays f now = (now.number ≡ f.number) × (now.parent ≡ f.parent) × (now.def ≡ f.def)

pub operated_stays : (e next_task : ℕ) (operation : Operation) (f : Flow) → Stays f (operated e next_task operation f)
operated_stays e next_task (Terminate reason) f = (refl, refl, refl)
operated_stays e next_task Pause f = (refl, refl, refl)
operated_stays e next_task Resume f = (refl, refl, refl)
operated_stays e next_task Restart f = (refl, refl, refl)
operated_stays e next_task Retry f = (refl, refl, refl)
operated_stays e next_task (Rerun number input) f = by_node (node_to_rerun f.def number f.attempts) where
  by_node : (o : Option ℕ) → Stays f (option_map_or (λ node. rerun_from e input node f) o f)
  by_node None = (refl, refl, refl)
  by_node (Some node) = (refl, refl, refl)
operated_stays e next_task (Skip reference input output) f = by_node (node_to_skip f.def.nodes reference) where
  by_node : (o : Option Node) → Stays f (option_map_or (λ n. record f { attempts = f.attempts ++ skipped_at e (record { 0 = next_task }) input output n ∷ [] }) o f)
  by_node None = (refl, refl, refl)
  by_node (Some n) = (refl, refl, refl)

-- ---- states

pub operated_changed : (e : ℕ) (operation : Operation) (s : State) (k : Kept) → IsSound s → Stands k s.flows
    → IsChanged (raised (next_after operation s.next_task) s) k (operated e s.next_task operation k.flow)
operated_changed e operation s k sound stands =
    let stays = operated_stays e s.next_task operation k.flow in
    record {
      stands = stands;
      number = stays.0;
      parent = stays.1;
      rising = operated_rising e s.next_task operation k.flow sound.from_one (unchanged s k sound stands).rising;
    }

-- ---- removals

module _ (place e : ℕ) (s : State) (k : Kept) (sound : IsSound s) (stands : Stands k s.flows) where
  abbrev revised_flows : List Kept
  revised_flows = map (revised place k.flow (emptied k.flow)) s.flows

  pub removed_count : (all : Bool) (task : TaskNo) → count_all all task (removed place k.flow s.flows) ≤ count_all all task s.flows
  removed_count all task =
      let some = count_filter all task (is_other k.flow.number) revised_flows in
      let swap = count_swapped all task place k.flow (emptied k.flow) 1 s.next_flow k s.flows sound.rise stands refl in
      omega (arith, some, swap)

  pub removed_sound : IsSound (record s { last = e; flows = removed place k.flow s.flows })
  removed_sound = record {
    rise = rise_filter (is_other k.flow.number) 1 s.next_flow revised_flows (rise_revised place k.flow (emptied k.flow) 1 s.next_flow s.flows sound.rise);
    from_one = sound.from_one;
    flows =
        All-filter (is_other k.flow.number) (IsSoundFlow s.next_task) revised_flows
        (sound_revised place k.flow (emptied k.flow) s.next_task s.next_task s.flows (omega arith)
        (record { rising = sound.from_one; parent = (all_stands (IsSoundFlow s.next_task) k s.flows sound.flows stands).parent }) sound.flows);
    once = λ task. (
        let fall = removed_count true task in
        let was = counts_tally task s.flows in
        let now = counts_tally task (removed place k.flow s.flows) in
        let once = sound.once task in
        omega (arith, fall, was, now, once)
        );
  }
