use Rattle.std.proofs.Common.{◌≡◌, drop}
use Rattle.wf_routes.specs.Asked.{called}
use Rattle.wf_routes.proofs.table.called.Given as goal

-- the calls still to be looked at decide
abbrev pub invariant-loop-call : goal.invariant-loop-call
invariant-loop-call l = called l.calls l.method ≡ called (drop l.call-index l.calls) l.method
