use Rattle.std.proofs.Common.{◌≡◌, ◌-◌, suc, ◌∙◌, arith}
use Rattle.std.proofs.lemmas.List.{length-map}
use Rattle.wf_kept.specs.declared.kept.KeptFlow.{KeptFlow}
use Rattle.wf_kept.specs.Flows.{all_kept, kept}
use Rattle.wf_kept.proofs.RevisedLemmas.{concerned, looked_at, not_concerned, set_counted}
use Rattle.wf_kept.proofs.flows.revise.Goals as goal

pub flows-preserved-then-concerns : goal.flows-preserved-then-concerns
flows-preserved-then-concerns c =
    let xs = all_kept c.args.flows.now.items in
    let ys = c.flows.flows.items in
    let left = c.flows.left - 1 in
    let one : c.flows.left ≡ suc left = omega (arith, c.flows-test.true) in
    let counted = c.flows.invariant.counted in
    let within = c.flows.invariant.within in
    let set = c.revise.ensures.items in
    let test = rw c.as_slice.ensures at c.concerns.ensures in
    record {
      within = omega (arith, within);
      counted =
          set_counted ys c.revise.new.self.items left (λ (k : KeptFlow). record k { revision = c.args.revision })
          (omega (arith, within, counted, c.flows-test.true)) set ∙ counted;
      spare = c.revise.ensures.room ∙ c.flows.invariant.spare;
      kept = looked_at c.args.revision c.args.before.now.flow xs c.args.place left c.flows.left ys c.revise.new.self.items c.concerns.result one
          (omega (arith, within, length-map c.args.flows.now.items kept, c.flows-test.true)) c.flows.invariant.kept test
          (λ now k so_far here there. concerned c.args.revision c.args.before.now.flow xs c.args.place left ys now k so_far here there c.concerns.result c.revise.new.self.items c.if-concerns.true test set);
    }

pub flows-preserved : goal.flows-preserved
flows-preserved c =
    let xs = all_kept c.args.flows.now.items in
    let ys = c.flows.flows.items in
    let left = c.flows.left - 1 in
    let one : c.flows.left ≡ suc left = omega (arith, c.flows-test.true) in
    let within = c.flows.invariant.within in
    let test = rw c.as_slice.ensures at c.concerns.ensures in
    record {
      within = omega (arith, within);
      counted = c.flows.invariant.counted;
      spare = c.flows.invariant.spare;
      kept = looked_at c.args.revision c.args.before.now.flow xs c.args.place left c.flows.left ys ys c.concerns.result one
          (omega (arith, within, length-map c.args.flows.now.items kept, c.flows-test.true)) c.flows.invariant.kept test
          (λ now k so_far here there. not_concerned c.args.revision c.args.before.now.flow xs c.args.place left ys now k so_far here there c.concerns.result c.if-concerns.false test);
    }
