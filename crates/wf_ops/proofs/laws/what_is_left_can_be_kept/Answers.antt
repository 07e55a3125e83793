use Rattle.wf_machine.proofs.OperatorLemmas.{paused_kept, rerun_kept, restarted_kept, resumed_kept, retried_kept, skipped_kept, terminated_kept}
use Rattle.wf_ops.proofs.laws.what_is_left_can_be_kept.Goals as goal

pub returns : goal.returns
returns c =
    record {
      pause = paused_kept;
      resume = resumed_kept;
      terminate = terminated_kept;
      restart = restarted_kept;
      retry = retried_kept;
      rerun = rerun_kept;
      skip = λ limits e reference input output number f. skipped_kept limits number.0 e reference input output number f;
    }
