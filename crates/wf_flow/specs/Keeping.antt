-- What the type of a flow keeps.
use Rattle.wf_machine.specs.State.{Flow, RisingFrom}
use Rattle.wf_machine.specs.Records.{Each, IsInRange, IsRecord}

-- the attempts stand by rising number and are in range, and the flow can be kept
pub record IsSoundFlow (f : Flow) : Type 0 where
  pub rising : RisingFrom 1 f.attempts
  pub ranges : Each IsInRange f.attempts
  pub sound : IsRecord f
