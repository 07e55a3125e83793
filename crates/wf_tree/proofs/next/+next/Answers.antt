use Rattle.std.proofs.Common.{map}
use Rattle.wf_machine.specs.Sight.{seen}
use Rattle.wf_machine.proofs.TreeLemmas.{next_loop}
use Rattle.wf_tree.proofs.next.+next.Goals as goal

pub next_at-returns-in-Loop : goal.next_at-returns-in-Loop
next_at-returns-in-Loop t c =
    let by_body = next_loop (map seen c.args.flow.now.flow.attempts) c.args.iteration c.args.behind c.args.node.now.index c.in-Loop.field-0 c.in-Loop.body in
    rw (c.in-Loop.is, by_body, ← c.as_slice.ensures) c.next_of_loop.ensures
