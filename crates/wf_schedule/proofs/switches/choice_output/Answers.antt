use Rattle.wf_schedule.proofs.switches.choice_output.Goals as goal

pub returns : goal.returns
returns c = rw c.in_ok-results.ensures at c.table_of.ensures
