use Rattle.std.proofs.Common.{◌∙◌, sym}
use Rattle.wf_retry.specs.Reading.{cause_due}
use Rattle.wf_retry.proofs.FirstLemmas.{at_index, due_some, left_all}
use Rattle.wf_retry.proofs.due.first_due.Goals as goal

pub loop-place-init : goal.loop-place-init
loop-place-init c = due_some c.args.moment c.args.attempts.now ∙ sym (left_all (cause_due c.args.moment) c.args.attempts.now)

pub returns-in-Some-clause-attempt : goal.returns-in-Some-clause-attempt
returns-in-Some-clause-attempt c =
    at_index c.args.attempts.now c.loop-place.place c.index-attempts-place.result c.loop-place-test.true c.index-attempts-place.is
