use Rattle.std.proofs.Common.{◌+◌, sym}
use Rattle.std.proofs.lemmas.List.{take_rest}
use Rattle.wf_machine.specs.Operators.{is_redone}
use Rattle.wf_ops.proofs.PlaceLemmas.{passes_there}
use Rattle.wf_ops.proofs.retrying.is_redone_at.Goals as goal

pub returns-in-Some : goal.returns-in-Some
returns-in-Some c =
    rw (c.is_redone.ensures, take_rest c.attempts.result.now (c.args.place + 1), c.attempts.ensures.value, c.def.ensures)
    (passes_there (is_redone c.args.flow.now.flow.def) c.args.flow.now.flow.attempts c.args.place c.in-Some.attempt.now (sym c.in-Some.ensures))
