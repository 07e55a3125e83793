use Rattle.wf_ops.proofs.RetryLemmas.{earlier_kept, failed_taken, successful_kept}
use Rattle.wf_ops.proofs.laws.a_retry_takes_away_what_failed.Goals as goal

pub returns : goal.returns
returns c = record { taken = failed_taken; successful = successful_kept; earlier = earlier_kept }
