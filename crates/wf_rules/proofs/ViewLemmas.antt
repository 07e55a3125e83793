-- A plan reads of what is registered only what the flow's nodes name.
use Rattle.std.proofs.Common.{◌≡◌, ℕ, zero, suc, if◌then◌else◌, List, [], ◌∷◌, ◌++◌, Option, None, Some, refl, sym, ap, ◌∙◌, subst}
use Rattle.std.specs.Prelude.{option_map}
use Rattle.std.specs.Option.{option_map_or}
use Rattle.wf_doc.specs.declared.doc.Doc.{Doc}
use Rattle.wf_wire.specs.declared.limits.Limits.{Limits}
use Rattle.wf_rules.specs.declared.acting.Act.{Act}
use Rattle.wf_machine.specs.declared.definition.FlowDef.{FlowDef}
use Rattle.wf_machine.specs.declared.definition.Node.{Node}
use Rattle.wf_machine.specs.declared.definition.NodeKind.{NodeKind, Simple, Switch, Fork', Join, Loop', SubFlow, SetVariable, Wait, Human, Terminate}
use Rattle.wf_machine.specs.declared.walking.Next.{Next}
use Rattle.wf_machine.specs.declared.walking.Next.TheVariants.{Schedule, Join as Joins, Turn as Turns, Waits, Done as AllDone}
use Rattle.wf_rules.specs.Sight.{Sight, Scene, sight}
use Rattle.wf_machine.specs.Marks.{next_step, node_at}
use Rattle.wf_rules.specs.Outputs.{filled_in}
use Rattle.wf_rules.specs.Scheduling.{schedule_task, sub_flow_at, adding_one, schedule_kind, schedule}
use Rattle.wf_rules.specs.Acts.{Turn, made}
use Rattle.wf_rules.specs.Rules.{take_step, all_done, r0, r1, r2, r3, r4, r5, r6, first_of, is_running, pick, room, allowed, choose, rules_at_most}
use Rattle.wf_rules.specs.Plans.{planned, plan, SameNamed, SameBeside}
use Rattle.wf_rules.proofs.EndLemmas.{made_def}

module _ (limits : Limits) (a b : Scene) where
  filled_same : (s : Sight) (d : Doc) → a.mark ≡ b.mark → filled_in a s d ≡ filled_in b s d
  filled_same s d same = rw same refl

  kind_same : (s : Sight) (node : Node) (i : ℕ) (kind : NodeKind) (input : Doc) → SameNamed a b node.name kind → schedule_kind limits a s node i kind input ≡ schedule_kind limits b s node i kind input
  kind_same s node i Simple input h = ap (λ def. schedule_task limits s node i def input) h
  kind_same s node i (Switch cases) input h = refl
  kind_same s node i (Fork' n branches) input h = refl
  kind_same s node i (Join references) input h = refl
  kind_same s node i (Loop' count n body) input h = refl
  kind_same s node i (SubFlow name version) input h = ap (λ def. adding_one limits s (sub_flow_at limits s node i name def input)) h
  kind_same s node i SetVariable input h = refl
  kind_same s node i Wait input h = refl
  kind_same s node i Human input h = refl
  kind_same s node i Terminate input h = refl

  found_same : (s : Sight) (i : ℕ) (o : Option Node) → a.mark ≡ b.mark → ((n : Node) → o ≡ Some n → SameNamed a b n.name n.kind)
      → option_map (λ (n : Node). schedule limits a s n i) o ≡ option_map (λ (n : Node). schedule limits b s n i) o
  found_same s i None mark h = refl
  found_same s i (Some n) mark h =
      ap Some (ap (schedule_kind limits a s n i n.kind) (filled_same s n.input mark) ∙ kind_same s n i n.kind (filled_in b s n.input) (h n refl))

  step_same : (s : Sight) (next : Next) → SameBeside s.def.nodes a b → take_step limits a s next ≡ take_step limits b s next
  step_same s (Schedule index i) h = found_same s i (node_at s.def.nodes index) h.mark (λ n is. h.named index n is)
  step_same s (Joins index i) h = refl
  step_same s (Turns index i) h = refl
  step_same s Waits h = refl
  step_same s AllDone h = refl

  done_same : (s : Sight) (next : Next) → a.mark ≡ b.mark → all_done limits a s next ≡ all_done limits b s next
  done_same s (Schedule index i) h = refl
  done_same s (Joins index i) h = refl
  done_same s (Turns index i) h = refl
  done_same s Waits h = refl
  done_same s AllDone h = rw h refl

  pick_same : (s : Sight) → SameBeside s.def.nodes a b → pick limits a s ≡ pick limits b s
  unfolding pick
  pick_same s h =
      let zeroth : r0 a ≡ r0 b = rw (h.orphan) refl in
      let third : r3 limits a s ≡ r3 limits b s = rw (h.mark) refl in
      let fifth : r5 limits a s ≡ r5 limits b s = step_same s (next_step s.attempts s.def.nodes) h in
      let sixth : r6 limits a s ≡ r6 limits b s = done_same s (next_step s.attempts s.def.nodes) h.mark in
      let more : (r3 : Option (List Act)) → Option (List Act) = λ x. first_of (x ∷ []) in
      ap (λ o. if is_running s.status then o else None)
      (ap (λ x. first_of (x ∷ r1 s ∷ r2 s ∷ r3 limits a s ∷ r4 limits s ∷ r5 limits a s ∷ r6 limits a s ∷ [])) zeroth
      ∙ ap (λ x. first_of (r0 b ∷ r1 s ∷ r2 s ∷ x ∷ r4 limits s ∷ r5 limits a s ∷ r6 limits a s ∷ [])) third
      ∙ ap (λ x. first_of (r0 b ∷ r1 s ∷ r2 s ∷ r3 limits b s ∷ r4 limits s ∷ x ∷ r6 limits a s ∷ [])) fifth
      ∙ ap (λ x. first_of (r0 b ∷ r1 s ∷ r2 s ∷ r3 limits b s ∷ r4 limits s ∷ r5 limits b s ∷ x ∷ [])) sixth)

  nodes_seen : (e : ℕ) (t : Turn) → SameBeside t.flow.def.nodes a b → SameBeside (sight e a.children t.flow).def.nodes a b
  unfolding sight
  nodes_seen e t h = h

  choose_same : (kept e : ℕ) (t : Turn) → SameBeside t.flow.def.nodes a b → choose limits a kept e t ≡ choose limits b kept e t
  choose_same kept e t h =
      ap (option_map (allowed (room limits kept t)))
      (pick_same (sight e a.children t.flow) (nodes_seen e t h) ∙ ap (λ cs. pick limits b (sight e cs t.flow)) h.children)

  planned_same : (kept e n : ℕ) (t : Turn) → SameBeside t.flow.def.nodes a b → planned limits a kept e n t ≡ planned limits b kept e n t
  planned_same kept e zero t h = refl
  planned_same kept e (suc n) t h =
      rw (choose_same kept e t h) (by_choice (choose limits b kept e t) (λ u k. planned_same kept e n u k)) where
        by_choice : (o : Option (List Act)) → ((u : Turn) → SameBeside u.flow.def.nodes a b → planned limits a kept e n u ≡ planned limits b kept e n u)
            → option_map_or (λ acts. acts ++ planned limits a kept e n (made e acts t)) o [] ≡ option_map_or (λ acts. acts ++ planned limits b kept e n (made e acts t)) o []
        by_choice None on = refl
        by_choice (Some acts) on = ap (λ more. acts ++ more) (on (made e acts t) (subst (λ (d : FlowDef). SameBeside d.nodes a b) (sym (made_def e acts t)) h))

  pub plan_same : (kept e : ℕ) (t : Turn) → SameBeside t.flow.def.nodes a b → plan limits a kept e t ≡ plan limits b kept e t
  unfolding plan
  plan_same kept e t h = planned_same kept e (rules_at_most limits t) t h
