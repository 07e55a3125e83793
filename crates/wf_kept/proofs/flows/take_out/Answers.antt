use Rattle.std.proofs.Common.{◌≡◌, Some, IfSome, slice_get, ap, sym, subst, ◌∙◌, map}
use Rattle.std.specs.Option.{option_map}
use Rattle.wf_machine.specs.State.{Kept}
use Rattle.wf_machine.specs.Flows.{emptied, removed}
use Rattle.wf_kept.specs.Flows.{all_kept, flow_number, kept, revised_with}
use Rattle.wf_kept.proofs.RevisedLemmas.{get_kept}
use Rattle.wf_kept.proofs.RemovalLemmas.{remove_kept, taken_out}
use Rattle.wf_kept.proofs.flows.take_out.Goals as goal

pub returns-clause-items : goal.returns-clause-items
returns-clause-items c =
    let old = c.args.flows.now.items in
    let gone = c.remove-gone.result.flow.flow in
    let revised = revised_with c.args.revision gone (emptied gone) in
    let there : slice_get (all_kept old) c.args.place ≡ Some (kept c.remove-gone.result) = get_kept old c.args.place ∙ ap (option_map kept) c.remove-gone.ensures.item in
    let left : all_kept c.revise_children.new.flows.items ≡ removed c.args.revision gone (all_kept old) =
    c.revise_children.ensures.items
    ∙ ap (λ l. map revised (all_kept l)) c.remove-gone.ensures.items
    ∙ ap (map revised) (remove_kept old c.args.place)
    ∙ taken_out c.args.revision gone c.requires.rises.0 (all_kept old) c.args.place c.requires.rises.1 (ap (option_map flow_number) there) in
    subst (λ o. IfSome o (λ (k : Kept). all_kept c.revise_children.new.flows.items ≡ removed c.args.revision k.flow (all_kept old))) (sym there) left
