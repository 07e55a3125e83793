use Rattle.wf_time.proofs.DelayLemmas.{doubled}
use Rattle.wf_time.proofs.delay.retry_delay.Goals as goal

pub returns-in-Exponential : goal.returns-in-Exponential
returns-in-Exponential c =
    rw (c.min-in-Exponential-2.ensures, c.pow.ensures, c.min-in-Exponential.ensures, c.in-Exponential.is)
    (doubled c.args.timing.now.delay c.args.retry)
