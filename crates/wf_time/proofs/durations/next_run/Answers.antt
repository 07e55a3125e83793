use Rattle.std.proofs.Common.{◌<◌, length, arith}
use Rattle.std.proofs.lemmas.Bool.Decides.{nat_tests}
use Rattle.wf_time.proofs.RunLemmas.{run_at}
use Rattle.wf_time.proofs.durations.next_run.Goals as goal

pub returns-clause-some : goal.returns-clause-some
returns-clause-some c =
    let some : 0 < length c.args.text.now = grind (arith, nat_tests, c.is_empty.ensures, c.if-is_empty.false) in
    rw (c.split_at.ensures.front, c.split_at.ensures.back)
    (run_at c.alike_len-more.result c.args.text.now some c.alike_len-more.ensures.value)
