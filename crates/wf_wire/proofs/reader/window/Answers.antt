use Rattle.std.proofs.Common.{sym, arith}
use Rattle.std.proofs.lemmas.List.{length-take-le, take_all}
use Rattle.wf_wire.proofs.reader.window.Goals as goal

pub slice_bounds-result-end : goal.slice_bounds-result-end
slice_bounds-result-end c = sym (length-take-le c.args.most c.args.held.now (omega (arith, c.if-held-most.true)))

pub returns-else-held-most : goal.returns-else-held-most
returns-else-held-most c = sym (take_all c.args.most c.args.held.now (omega (arith, c.if-held-most.false)))
