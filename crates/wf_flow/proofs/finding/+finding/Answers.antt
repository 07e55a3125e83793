use Rattle.std.proofs.Common.{refl, sym, ◌∙◌}
use Rattle.wf_flow.proofs.RowLemmas.{inside_loop}
use Rattle.wf_flow.proofs.FindLemmas.{inside_branch, inside_case}
use Rattle.wf_flow.proofs.finding.+finding.Goals as goal

pub find_in_branches-returns-in-Some : goal.find_in_branches-returns-in-Some
find_in_branches-returns-in-Some g t c =
    sym (inside_branch (g.T.NodeTest.passes c.args.test.now) c.args.branches.now c.loop-branch.branch-index c.branch-item.result c.in-Some.found.now c.loop-branch-test.true c.branch-item.is (rw (← c.as_slice.ensures, ← c.find_in.ensures, c.in-Some.is) refl))
    ∙ c.loop-branch.invariant

pub find_in_cases-returns-in-Some : goal.find_in_cases-returns-in-Some
find_in_cases-returns-in-Some g t c =
    sym (inside_case (g.T.NodeTest.passes c.args.test.now) c.args.cases.now c.loop-case.case-index c.case-item.result c.in-Some.found.now c.loop-case-test.true c.case-item.is (rw (← c.as_slice.ensures, ← c.find_in.ensures, c.in-Some.is) refl))
    ∙ c.loop-case.invariant

pub find_inside-returns-in-Loop : goal.find_inside-returns-in-Loop
find_inside-returns-in-Loop g t c =
    rw (c.in-Loop.is, inside_loop c.in-Loop.field-0 c.in-Loop.body, ← c.as_slice-in-Loop.ensures) c.find_in.ensures
