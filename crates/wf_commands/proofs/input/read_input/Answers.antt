use Rattle.std.proofs.Common.{arith}
use Rattle.wf_commands.proofs.InputLemmas.{long}
use Rattle.wf_commands.proofs.input.read_input.Goals as goal

pub returns-then-len-most-clause-input : goal.returns-then-len-most-clause-input
returns-then-len-most-clause-input g c =
    long c.args.most c.reads.held.items (g.R.Source.left c.args.source.now) (g.R.Source.left c.reads.source) c.reads.invariant.moved
    (omega (arith, c.if-len-most.true, c.len.ensures, c.reads.invariant.within))
