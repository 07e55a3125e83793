use Rattle.std.proofs.Common.{◌≡◌, ◌∙◌, sym, ap, ◌+◌, ◌-◌, ◌<◌, length, drop, arith}
use Rattle.std.specs.Option.{option_copied, option_or}
use Rattle.wf_machine.specs.declared.definition.Branch.{out-Branch}
use Rattle.wf_machine.specs.declared.definition.Case.{out-Case}
use Rattle.wf_machine.specs.declared.definition.Cases.{out-Cases}
use Rattle.wf_machine.specs.Marks.{all_nodes, all_of_branches, all_of_cases}
use Rattle.wf_flow.proofs.RowLemmas.{inside_loop}
use Rattle.wf_closing.specs.Closing.{fork_before, head_index}
use Rattle.wf_closing.proofs.ForkLemmas.{copied_or, node_step, node_head, branch_step, branch_head, case_step, case_head, choice_parts}
use Rattle.wf_closing.proofs.forks.+forks.Goals as goal

pub fork_before-nodes-preserved : goal.fork_before-nodes-preserved
fork_before-nodes-preserved t c =
    let lt : c.nodes.left - 1 < length c.args.nodes.now = let h = c.nodes.invariant.within in let k = c.nodes-test.true in omega (arith, h, k) in
    let up : c.nodes.left - 1 + 1 ≡ c.nodes.left = let k = c.nodes-test.true in omega (arith, k) in
    let after : c.nodes.after ≡ head_index c.args.next (drop (c.nodes.left - 1 + 1) c.args.nodes.now) = rw up c.nodes.invariant.after in
    let found : option_copied c.nodes.found ≡ fork_before c.args.index c.args.next (all_nodes (drop (c.nodes.left - 1 + 1) c.args.nodes.now)) = rw up c.nodes.invariant.found in
    record {
      within = let h = c.nodes.invariant.within in omega (arith, h);
      found = ap option_copied c.or-found.ensures ∙ copied_or c.fork_at.result c.nodes.found
          ∙ node_step c.args.index c.args.next c.nodes.after c.args.nodes.now (c.nodes.left - 1) c.index-nodes-left.result (option_copied c.fork_at.result) (option_copied c.nodes.found) lt c.index-nodes-left.is c.fork_at.ensures after found;
      after = node_head c.args.next c.args.nodes.now (c.nodes.left - 1) c.index-nodes-left.result lt c.index-nodes-left.is;
    }

pub fork_in_branches-branches-preserved : goal.fork_in_branches-branches-preserved
fork_in_branches-branches-preserved t c =
    let lt : c.branches.left - 1 < length c.args.branches.now = let h = c.branches.invariant.within in let k = c.branches-test.true in omega (arith, h, k) in
    let up : c.branches.left - 1 + 1 ≡ c.branches.left = let k = c.branches-test.true in omega (arith, k) in
    let after : c.branches.after ≡ head_index c.args.next (all_of_branches (drop (c.branches.left - 1 + 1) c.args.branches.now)) = rw up c.branches.invariant.after in
    let found : option_copied c.branches.found ≡ fork_before c.args.index c.args.next (all_of_branches (drop (c.branches.left - 1 + 1) c.args.branches.now)) = rw up c.branches.invariant.found in
    let x = c.index-branches-left.result in
    let nodes : c.as_slice-nodes.result.now ≡ (out-Branch x).nodes = c.as_slice-nodes.ensures ∙ ap (λ b. (out-Branch b).nodes) (sym c.index-branches-left.is) in
    let here : option_copied c.fork_before.result ≡ fork_before c.args.index c.branches.after (all_nodes (out-Branch x).nodes) =
    c.fork_before.ensures ∙ ap (λ ns. fork_before c.args.index c.branches.after (all_nodes ns)) nodes in
    record {
      within = let h = c.branches.invariant.within in omega (arith, h);
      found = ap option_copied c.or-found.ensures ∙ copied_or c.fork_before.result c.branches.found
          ∙ branch_step c.args.index c.args.next c.branches.after c.args.branches.now (c.branches.left - 1) x (option_copied c.fork_before.result) (option_copied c.branches.found) lt c.index-branches-left.is here after found;
      after = c.first_index-after.ensures ∙ ap (head_index c.branches.after) nodes
          ∙ branch_head c.args.next c.branches.after c.args.branches.now (c.branches.left - 1) x lt c.index-branches-left.is after;
    }

pub fork_in_cases-cases-preserved : goal.fork_in_cases-cases-preserved
fork_in_cases-cases-preserved t c =
    let lt : c.cases.left - 1 < length c.args.cases.now = let h = c.cases.invariant.within in let k = c.cases-test.true in omega (arith, h, k) in
    let up : c.cases.left - 1 + 1 ≡ c.cases.left = let k = c.cases-test.true in omega (arith, k) in
    let after : c.cases.after ≡ head_index c.args.next (all_of_cases (drop (c.cases.left - 1 + 1) c.args.cases.now)) = rw up c.cases.invariant.after in
    let found : option_copied c.cases.found ≡ fork_before c.args.index c.args.next (all_of_cases (drop (c.cases.left - 1 + 1) c.args.cases.now)) = rw up c.cases.invariant.found in
    let x = c.index-cases-left.result in
    let nodes : c.as_slice-nodes.result.now ≡ (out-Case x).nodes = c.as_slice-nodes.ensures ∙ ap (λ b. (out-Case b).nodes) (sym c.index-cases-left.is) in
    let here : option_copied c.fork_before.result ≡ fork_before c.args.index c.cases.after (all_nodes (out-Case x).nodes) =
    c.fork_before.ensures ∙ ap (λ ns. fork_before c.args.index c.cases.after (all_nodes ns)) nodes in
    record {
      within = let h = c.cases.invariant.within in omega (arith, h);
      found = ap option_copied c.or-found.ensures ∙ copied_or c.fork_before.result c.cases.found
          ∙ case_step c.args.index c.args.next c.cases.after c.args.cases.now (c.cases.left - 1) x (option_copied c.fork_before.result) (option_copied c.cases.found) lt c.index-cases-left.is here after found;
      after = c.first_index-after.ensures ∙ ap (head_index c.cases.after) nodes
          ∙ case_head c.args.next c.cases.after c.args.cases.now (c.cases.left - 1) x lt c.index-cases-left.is after;
    }

pub fork_inside-returns-in-Loop : goal.fork_inside-returns-in-Loop
fork_inside-returns-in-Loop t c = rw (c.in-Loop.is, inside_loop c.in-Loop.field-0 c.in-Loop.body, ← c.as_slice-in-Loop.ensures) c.fork_before.ensures

pub fork_in_choice-returns : goal.fork_in_choice-returns
fork_in_choice-returns t c =
    let cases = (out-Cases c.args.choice.now).cases in
    let nodes = (out-Cases c.args.choice.now).otherwise in
    let behind = c.first_index-behind.ensures ∙ ap (head_index c.args.after) c.as_slice-otherwise.ensures in
    let first : option_copied c.fork_in_cases.result ≡ fork_before c.args.index (head_index c.args.after nodes) (all_of_cases cases) =
    c.fork_in_cases.ensures ∙ ap (λ cs. fork_before c.args.index c.first_index-behind.result (all_of_cases cs)) c.as_slice.ensures
    ∙ ap (λ k. fork_before c.args.index k (all_of_cases cases)) behind in
    let second : option_copied c.fork_before.result ≡ fork_before c.args.index c.args.after (all_nodes nodes) =
    c.fork_before.ensures ∙ ap (λ ns. fork_before c.args.index c.args.after (all_nodes ns)) c.as_slice-otherwise.ensures in
    ap option_copied c.or.ensures ∙ copied_or c.fork_in_cases.result c.fork_before.result
    ∙ ap (λ o. option_or o (option_copied c.fork_before.result)) first
    ∙ ap (option_or (fork_before c.args.index (head_index c.args.after nodes) (all_of_cases cases))) second
    ∙ choice_parts c.args.index c.args.after cases nodes
