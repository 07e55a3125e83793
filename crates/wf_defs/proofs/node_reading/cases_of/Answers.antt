use Rattle.std.proofs.Common.{◌≡◌, ◌<◌, ◌≤◌, ◌∙◌, ◌∷◌, ◌++◌, [], ap, length, sym, arith}
use Rattle.std.proofs.lemmas.Bool.Decides.{nat_tests}
use Rattle.std.proofs.lemmas.List.{length-append}
use Rattle.wf_defs.specs.NodeReading.{case_of}
use Rattle.wf_defs.proofs.CaseLemmas.{cases_of_none, cases_of_more, cases_of_over, at_place}
use Rattle.wf_defs.proofs.node_reading.cases_of.Goals as goal

pub loop-nodes-init : goal.loop-nodes-init
loop-nodes-init c = (c.new-made.ensures ∙ sym (cases_of_none c.args.entries.now), omega arith)

pub loop-nodes-preserved-in-Some-get : goal.loop-nodes-preserved-in-Some-get
loop-nodes-preserved-in-Some-get c =
    let l = c.loop-nodes in
    let nodes = c.in-Some.nodes in
    let entry = c.in-Some-get.entry.now in
    let tested = c.in-Some-get.ensures.lookup.0 in
    let within : l.n < length c.args.entries.now = grind (arith, nat_tests, tested) in
    let counted : l.n ≡ length l.yielded = omega (arith, l.invariant.1) in (
      c.in_ok-push.ensures.ok
          ∙ ap (λ k. l.made ++ case_of k nodes ∷ []) (c.in_ok-key.ensures ∙ c.key.ensures)
          ∙ ap (λ m. m ++ case_of entry.key nodes ∷ []) l.invariant.0
          ∙ sym
          (cases_of_more c.args.entries.now l.yielded nodes entry (omega (arith, within, counted))
          (at_place c.args.entries.now l.n (length l.yielded) entry counted (grind arith))),
      omega (arith, within, counted, length-append l.yielded (nodes ∷ [])),
    )

pub loop-nodes-preserved : goal.loop-nodes-preserved
loop-nodes-preserved c =
    let l = c.loop-nodes in
    let tested = c.in_default.ensures.lookup.0 in
    let over : length c.args.entries.now ≤ l.n = grind (arith, nat_tests, tested) in (
      l.invariant.0 ∙ sym (cases_of_over c.args.entries.now l.yielded c.in-Some.nodes (omega (arith, over, l.invariant.1))),
      omega (arith, over, l.invariant.1, length-append l.yielded (c.in-Some.nodes ∷ [])),
    )
