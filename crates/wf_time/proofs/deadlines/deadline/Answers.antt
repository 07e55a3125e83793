use Rattle.std.proofs.Common.{Some, ◌∙◌, sym}
use Rattle.wf_time.specs.Deadlines.{due_by_timing, due_by_wait}
use Rattle.wf_time.proofs.DueLemmas.{earliest_both}
use Rattle.wf_time.proofs.deadlines.deadline.Goals as goal

pub returns-in-Some : goal.returns-in-Some
returns-in-Some c =
    rw c.in-Some.is
    (c.first_of.ensures
    ∙ rw (c.timed_deadline.ensures, c.wait_deadline-wait.ensures) (sym (earliest_both (due_by_timing (Some c.in-Some.timing.now) c.args.clocked.now) (due_by_wait c.args.clocked.now.wait))))
