use Rattle.wf_machine.proofs.OperatorLemmas.{rising_rerun, rising_retried, rising_skipped, rising_terminated}
use Rattle.wf_ops.proofs.laws.numbers_go_on_rising.Goals as goal

pub returns : goal.returns
returns c =
    record { terminate = rising_terminated; retry = rising_retried; rerun = rising_rerun; skip = rising_skipped }
