use Rattle.wf_tree.proofs.LawLemmas.{branches_done, first_branch}
use Rattle.wf_tree.proofs.laws.branches_run_beside_one_another.Goals as goal

pub returns-clause-done : goal.returns-clause-done
returns-clause-done c = branches_done

pub returns-clause-first : goal.returns-clause-first
returns-clause-first c = first_branch
