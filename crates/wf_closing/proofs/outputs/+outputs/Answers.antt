use Rattle.wf_flow.proofs.RowLemmas.{inside_loop}
use Rattle.wf_closing.proofs.outputs.+outputs.Goals as goal

pub with_inside-returns-in-Loop : goal.with_inside-returns-in-Loop
with_inside-returns-in-Loop t c = rw (c.in-Loop.is, inside_loop c.in-Loop.field-0 c.in-Loop.body, ← c.as_slice-in-Loop.ensures) c.with_outputs.ensures
