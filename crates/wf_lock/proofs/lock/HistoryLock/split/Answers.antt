use Rattle.std.proofs.Common.{sym, subst}
use Rattle.wf_lock.specs.Passes.{IsAtRest}
use Rattle.wf_lock.proofs.lock.HistoryLock.split.Goals as goal

pub invariant_of-pass : goal.invariant_of-pass
invariant_of-pass g c = subst IsAtRest (sym c.split.ensures.old.1) c.pass.invariant
