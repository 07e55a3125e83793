use Rattle.std.proofs.Common.{◌≡◌, None, arith, rules}
use Rattle.std.proofs.lemmas.Grind.{common_steps}
use Rattle.wf_names.proofs.StatusLemmas.{task_status_named-exact}
use Rattle.wf_names.specs.TaskStatus.{task_status_named}
use Rattle.wf_names.proofs.statuses.TaskStatus.read.Goals as goal

pub loop-status-init : goal.loop-status-init
unfolding task_status_named
loop-status-init c = search rules

pub returns-clause-exact : goal.returns-clause-exact
returns-clause-exact c status =
    let none_named : None ≡ task_status_named c.args.text.now = grind (arith, common_steps) in
    rw none_named (task_status_named-exact c.args.text.now status)
