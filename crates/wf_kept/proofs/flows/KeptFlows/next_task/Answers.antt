use Rattle.wf_kept.specs.Index.{placed_task}
use Rattle.wf_kept.proofs.SearchLemmas.{rises_range}
use Rattle.wf_kept.proofs.flows.KeptFlows.next_task.Goals as goal

pub returns-clause-range : goal.returns-clause-range
returns-clause-range c = rw (← c.self.view_is) (rises_range placed_task _ _ _ c.self.invariant.rows_rise, c.self.invariant.task_numbers)
