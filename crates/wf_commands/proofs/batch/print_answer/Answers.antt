use Rattle.std.proofs.Common.{None, sym, ◌∙◌, rules}
use Rattle.wf_commands.proofs.TurnLemmas.{unasked_last}
use Rattle.wf_commands.proofs.batch.print_answer.Goals as goal

pub returns-in_ok-print_fault-in-Err-clause-answer : goal.returns-in_ok-print_fault-in-Err-clause-answer
returns-in_ok-print_fault-in-Err-clause-answer c = record {
  reply = None;
  asked = c.in-Err.ensures.none;
  are = search rules;
  ends = unasked_last c.args.core.now.limits c.args.message.now ∙ sym c.closes-in-Err.ensures;
}
