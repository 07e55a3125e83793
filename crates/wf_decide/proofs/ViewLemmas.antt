-- What a plan reads in a view of a state, and in the state itself.
use Rattle.std.proofs.Common.{◌≡◌, ◌∙◌, ap, refl, ℕ, Bool, false, ◌&&◌, not, is_some, length, Option, None, Some}
use Rattle.std.specs.Option.{option_map_or}
use Rattle.wf_names.specs.declared.ids.FlowNo.{FlowNo}
use Rattle.wf_names.specs.declared.ids.TaskNo.{TaskNo}
use Rattle.wf_wire.specs.declared.limits.Limits.{Limits}
use Rattle.wf_machine.specs.declared.sight.View.{View}
use Rattle.wf_machine.specs.State.{Flow, State}
use Rattle.wf_rules.specs.Acts.{Turn, made}
use Rattle.wf_rules.specs.Plans.{Numbers, SameBeside, plan, turn_at}
use Rattle.wf_rules.specs.Rules.{decide}
use Rattle.wf_rules.specs.Sight.{Scene, is_open_in, scene_in}
use Rattle.wf_decide.specs.Viewing.{IsViewOf, numbers_in, numbers_of, scene_of}

orphan_by : (is_open : FlowNo × TaskNo → Bool) (o : Option (FlowNo × TaskNo)) → (is_some o && not (option_map_or is_open o false)) ≡ option_map_or (λ parent. not (is_open parent)) o false
orphan_by is_open None = refl
orphan_by is_open (Some parent) = refl

same_beside : (s : State) (flow : Flow) (view : View) → IsViewOf s flow view → SameBeside flow.def.nodes (scene_of view flow) (scene_in s flow)
same_beside s flow view h =
    record {
      mark = h.mark;
      orphan = ap (λ b. is_some flow.parent && not b) h.parent ∙ orphan_by (is_open_in s) flow.parent;
      children = h.children;
      named = h.named;
    }

same_numbers : (s : State) (flow : Flow) (view : View) → IsViewOf s flow view → numbers_of view ≡ numbers_in s
same_numbers s flow view h = rw (h.next_flow, h.next_task) refl

module _ (at_once : (limits : Limits) (scene : Scene) (kept e : ℕ) (flow : Flow) (next : Numbers) → made e (plan limits scene kept e (turn_at flow next)) (turn_at flow next) ≡ decide limits scene kept e (turn_at flow next)) (named : (limits : Limits) (a b : Scene) (kept e : ℕ) (t : Turn) → SameBeside t.flow.def.nodes a b → plan limits a kept e t ≡ plan limits b kept e t) where
  pub plan_applied : (limits : Limits) (s : State) (flow : Flow) (view : View) (e : ℕ) → IsViewOf s flow view
      → made e (plan limits (scene_of view flow) view.flows e (turn_at flow (numbers_of view))) (turn_at flow (numbers_in s))
      ≡ decide limits (scene_in s flow) (length s.flows) e (turn_at flow (numbers_in s))
  plan_applied limits s flow view e h =
      ap (λ acts. made e acts (turn_at flow (numbers_in s)))
      (named limits (scene_of view flow) (scene_in s flow) view.flows e (turn_at flow (numbers_of view)) (same_beside s flow view h)
      ∙ ap (λ kept. plan limits (scene_in s flow) kept e (turn_at flow (numbers_of view))) h.flows
      ∙ ap (λ next. plan limits (scene_in s flow) (length s.flows) e (turn_at flow next)) (same_numbers s flow view h))
      ∙ at_once limits (scene_in s flow) (length s.flows) e flow (numbers_in s)
