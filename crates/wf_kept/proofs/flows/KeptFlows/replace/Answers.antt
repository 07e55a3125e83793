use Rattle.std.proofs.Common.{◌≡◌, ◌+◌, Some, arith, ap, ◌∙◌, length}
use Rattle.wf_machine.specs.Flows.{flow_numbered}
use Rattle.wf_kept.specs.Flows.{FlowTable, all_kept, new_attempts}
use Rattle.wf_kept.proofs.RevisedLemmas.{tied_changed}
use Rattle.wf_kept.proofs.FlowLemmas.{known_and_new, tied_replaced, within_kept}
use Rattle.wf_kept.proofs.flows.KeptFlows.replace.Goals as goal

pub attempts_at-known-requires : goal.attempts_at-known-requires
attempts_at-known-requires c = rw c.as_slice-in-Some.ensures (within_kept _ _ _ (rw (c.number.ensures, c.as_slice.ensures) at c.in-Some.ensures.some))

-- what was known and what is new are the flow's attempts
counted : (c : goal.After-attempts) → c.attempts_at-known.result + new_attempts c.args.flow.flow c.args.self.now.kept ≡ length c.args.flow.flow.attempts
counted c =
    let there = rw (c.number.ensures, c.as_slice.ensures) at c.in-Some.ensures.some in
    let read = rw c.as_slice-in-Some.ensures at c.attempts_at-known.ensures in
    known_and_new _ _ _ _ c.self.invariant _ (ap (λ (t : FlowTable). t.kept) c.self.view_is) (ap (λ (t : FlowTable). t.next_task) c.self.view_is)
    c.args.flow.flow c.args.next_task c.requires.grown _ there _ read

pub add_rows-requires-clause-within : goal.add_rows-requires-clause-within
add_rows-requires-clause-within c = rw c.attempts.ensures.value (omega (arith, counted c))

pub add_rows-requires-clause-room : goal.add_rows-requires-clause-room
add_rows-requires-clause-room c =
    rw c.attempts.ensures.value (omega (arith, counted c, c.requires.room, ap (λ (t : FlowTable). t.spare_tasks) c.self.view_is))

pub put-requires-clause-rises : goal.put-requires-clause-rises
put-requires-clause-rises c = (_, c.self.invariant.flows_rise)

pub put-requires-clause-there : goal.put-requires-clause-there
put-requires-clause-there c = rw (c.number.ensures, c.as_slice.ensures) at c.in-Some.ensures.some

pub invariant_of-self : goal.invariant_of-self
invariant_of-self c =
    let there = rw (c.number.ensures, c.as_slice.ensures) at c.in-Some.ensures.some in
    let read = rw c.as_slice-in-Some.ensures at c.attempts_at-known.ensures in
    let tied = tied_replaced _ _ _ _ c.self.invariant _ (ap (λ (t : FlowTable). t.kept) c.self.view_is) (ap (λ (t : FlowTable). t.next_task) c.self.view_is)
    c.args.flow.flow c.args.next_task c.requires.grown _ there _ read c.args.revision c.requires.limit in
    let old = c.requires.grown.old in
    let found : flow_numbered c.args.flow.flow.number (all_kept c.self.inside.flows.items) ≡ Some old = ap (λ (t : FlowTable). flow_numbered c.args.flow.flow.number t.kept) c.self.view_is ∙ c.requires.grown.found in
    rw (c.put.ensures.items, c.add_rows.ensures.items, c.attempts.ensures.value, c.number-in-Some.ensures)
    (tied_changed c.args.revision old c.args.flow.flow (all_kept c.self.inside.flows.items) _ c.self.inside.next_flow c.args.next_task found tied)

pub returns-in-Some-clause-spare_tasks : goal.returns-in-Some-clause-spare_tasks
returns-in-Some-clause-spare_tasks c =
    let there = rw (c.number.ensures, c.as_slice.ensures) at c.in-Some.ensures.some in
    let read = rw c.as_slice-in-Some.ensures at c.attempts_at-known.ensures in
    let sum : c.attempts_at-known.result + new_attempts c.args.flow.flow c.args.self.now.kept ≡ length c.args.flow.flow.attempts =
    known_and_new _ _ _ _ c.self.invariant _ (ap (λ (t : FlowTable). t.kept) c.self.view_is) (ap (λ (t : FlowTable). t.next_task) c.self.view_is)
    c.args.flow.flow c.args.next_task c.requires.grown _ there _ read in
    omega (arith, sum, rw c.attempts.ensures.value at c.add_rows.ensures.room, ap (λ (t : FlowTable). t.spare_tasks) c.self.view_is)
