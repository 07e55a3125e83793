use Rattle.wf_core.proofs.MadeLemmas.{update_ended}
use Rattle.std.proofs.Common.{max}
use Rattle.wf_core.proofs.laws.ended_stays.Goals as goal

pub returns : goal.returns
returns c limits place caller moment wanted task outcome s k a found there ended own =
    update_ended limits place (max s.last moment) wanted task outcome s k a found there ended own
