use Rattle.std.proofs.Common.{◌≡◌, ◌-◌, suc, ◌∙◌, if◌then◌else◌, get_or, ap, sym, arith}
use Rattle.std.proofs.lemmas.List.{length-map}
use Rattle.std.proofs.lemmas.Option.{slice_get-get_or}
use Rattle.wf_machine.specs.Flows.{emptied}
use Rattle.wf_kept.specs.declared.kept.KeptFlow.{KeptFlow}
use Rattle.wf_kept.specs.Flows.{all_kept, kept, revised_with}
use Rattle.wf_kept.proofs.RevisedLemmas.{changed_from, one_left, one_revised, set_counted, stood_there}
use Rattle.wf_kept.proofs.flows.revise_children.Goals as goal

pub flows-preserved-then-is_orphaned_by : goal.flows-preserved-then-is_orphaned_by
flows-preserved-then-is_orphaned_by c =
    let gone = c.args.gone.now.flow in
    let f = revised_with c.args.revision gone (emptied gone) in
    let xs = all_kept c.args.flows.now.items in
    let ys = c.flows.flows.items in
    let left = c.flows.left - 1 in
    let one : c.flows.left ≡ suc left = omega (arith, c.flows-test.true) in
    let counted = c.flows.invariant.counted in
    let within = c.flows.invariant.within in
    let y = get_or ys left c.index-as_slice-left.result in
    let test = rw c.as_slice.ensures at c.is_orphaned_by.ensures in
    let so_far = c.flows.invariant.kept ∙ ap (λ j. changed_from f j xs) one in
    let there = stood_there f xs left ys y so_far (omega (arith, within, length-map c.args.flows.now.items kept, c.flows-test.true))
    (slice_get-get_or ys left c.index-as_slice-left.result (omega (arith, within, counted, c.flows-test.true))) in
    let set = c.revise.ensures.items in
    record {
      within = omega (arith, within);
      counted =
          set_counted ys c.revise.new.self.items left (λ (k : KeptFlow). record k { revision = c.args.revision })
          (omega (arith, within, counted, c.flows-test.true)) set ∙ counted;
      spare = c.revise.ensures.room ∙ c.flows.invariant.spare;
      kept = one_revised f xs left ys (kept y) so_far there c.args.revision c.revise.new.self.items
          (ap (λ b. if b then record (kept y) { revision = c.args.revision } else kept y) (sym test ∙ c.if-is_orphaned_by.true)) set;
    }

pub flows-preserved : goal.flows-preserved
flows-preserved c =
    let gone = c.args.gone.now.flow in
    let f = revised_with c.args.revision gone (emptied gone) in
    let xs = all_kept c.args.flows.now.items in
    let ys = c.flows.flows.items in
    let left = c.flows.left - 1 in
    let one : c.flows.left ≡ suc left = omega (arith, c.flows-test.true) in
    let counted = c.flows.invariant.counted in
    let within = c.flows.invariant.within in
    let y = get_or ys left c.index-as_slice-left.result in
    let test = rw c.as_slice.ensures at c.is_orphaned_by.ensures in
    let so_far = c.flows.invariant.kept ∙ ap (λ j. changed_from f j xs) one in
    let there = stood_there f xs left ys y so_far (omega (arith, within, length-map c.args.flows.now.items kept, c.flows-test.true))
    (slice_get-get_or ys left c.index-as_slice-left.result (omega (arith, within, counted, c.flows-test.true))) in
    record {
      within = omega (arith, within);
      counted = counted;
      spare = c.flows.invariant.spare;
      kept = one_left f xs left ys (kept y) so_far there (ap (λ b. if b then record (kept y) { revision = c.args.revision } else kept y) (sym test ∙ c.if-is_orphaned_by.false));
    }
