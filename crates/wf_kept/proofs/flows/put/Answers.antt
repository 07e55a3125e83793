use Rattle.std.proofs.Common.{◌≡◌, length, Some, IfSome, slice_get, ap, sym, subst, ◌∙◌, map, arith}
use Rattle.std.specs.Option.{option_map, option_map_or}
use Rattle.wf_machine.specs.State.{Kept}
use Rattle.wf_machine.specs.Flows.{flow_numbered, revised}
use Rattle.wf_kept.specs.declared.kept.KeptFlow.{KeptFlow}
use Rattle.wf_kept.specs.Flows.{all_kept, flow_number, kept, revised_with, with_kept}
use Rattle.wf_kept.proofs.FlowLemmas.{set_kept, with_at, within_kept}
use Rattle.wf_kept.proofs.SearchLemmas.{found_at}
use Rattle.wf_kept.proofs.RevisedLemmas.{get_kept, get_set, revised_put, set_length}
use Rattle.wf_kept.proofs.flows.put.Goals as goal

pub revise-requires : goal.revise-requires
revise-requires c =
    let within = within_kept c.args.flow.flow.number.0 c.args.flows.now.items c.args.place c.requires.there in
    let counted = ap length c.replace-before.ensures.items ∙ set_length c.args.flows.now.items c.args.place _ in
    omega (arith, within, counted)

pub returns-clause-items : goal.returns-clause-items
returns-clause-items c =
    let old = c.args.flows.now.items in
    let xs = all_kept old in
    let place = c.args.place in
    let flow = c.args.flow.flow in
    let before = c.replace-before.result in
    let new : KeptFlow = record { flow = c.args.flow; revision = c.args.revision } in
    let set = c.replace-before.ensures.items in
    let within = within_kept flow.number.0 old place c.requires.there in
    let mid : all_kept c.replace-before.new.self.items ≡ with_kept (kept new) xs =
    ap all_kept set ∙ set_kept old place new ∙ with_at (kept new) 1 c.requires.rises.0 xs place c.requires.rises.1 c.requires.there in
    let there : slice_get (all_kept c.replace-before.new.self.items) place ≡ Some (kept new) =
    get_kept c.replace-before.new.self.items place ∙ ap (λ l. option_map kept (slice_get l place)) set ∙ ap (option_map kept) (get_set old place new within) in
    let found : flow_numbered flow.number xs ≡ Some (kept before) =
    sym (found_at flow_number 1 c.requires.rises.0 flow.number.0 xs place c.requires.rises.1 c.requires.there)
    ∙ get_kept old place ∙ ap (option_map kept) c.replace-before.ensures.old in
    let revised_others : all_kept c.revise.new.flows.items ≡ map (revised_with c.args.revision before.flow.flow flow) (all_kept c.replace-before.new.self.items) =
    subst (λ o. IfSome o (λ (now : Kept). all_kept c.revise.new.flows.items ≡ map (revised_with c.args.revision before.flow.flow now.flow) (all_kept c.replace-before.new.self.items))) there c.revise.ensures.items in
    revised_others
    ∙ ap (map (revised_with c.args.revision before.flow.flow flow)) mid
    ∙ revised_put c.args.revision before.flow.flow flow xs
    ∙ sym (ap (λ o. option_map_or (λ (k : Kept). map (revised c.args.revision k.flow flow) xs) o xs) found)
