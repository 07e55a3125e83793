use Rattle.wf_machine.specs.Records.{IsInRange}
use Rattle.wf_flow.proofs.KinLemmas.{each_append}
use Rattle.wf_flow.proofs.RisingLemmas.{rising_to-append}
use Rattle.wf_flow.proofs.flow.Flow.add.Goals as goal

pub invariant_of-self : goal.invariant_of-self
invariant_of-self c =
    rw c.add.ensures.items
    (record {
      rising = rising_to-append _ _ _ (rw (← c.self.view_is) at c.requires.above);
      ranges = each_append IsInRange _ _ c.self.invariant.ranges c.in_range.ensures;
      sound = rw (← c.self.view_is) at c.requires.kept;
    })
