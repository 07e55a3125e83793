use Rattle.std.proofs.Common.{◌∙◌, ap, sym, subst, arith}
use Rattle.wf_wire.specs.Front.{window, IsPart}
use Rattle.wf_wire.proofs.ReaderLemmas.{window_short, part_here, full_here, many_here, kept_more, ends_more}
use Rattle.wf_wire.proofs.reader.watch_head.Goals as goal

pub find_head-requires : goal.find_head-requires
find_head-requires g c = omega (arith, window_short c.args.limits.now.head c.as_slice.result.now _ c.window.ensures, c.reads.invariant.2)

pub returns-in-Large-clause-watch : goal.returns-in-Large-clause-watch
returns-in-Large-clause-watch g c = (c.reads.invariant.0, many_here c.args.limits.now c.reads.held.items c.window.result.now c.in-Large.ensures.0 c.in-Large.ensures.1 (c.window.ensures ∙ ap (window c.args.limits.now.head) c.as_slice.ensures.value) c.in-Large.ensures.2.0 c.in-Large.ensures.2.1)

pub returns-then-len-max-clause-watch : goal.returns-then-len-max-clause-watch
returns-then-len-max-clause-watch g c = (c.reads.invariant.0, full_here c.args.limits.now c.reads.held.items c.window.result.now (c.window.ensures ∙ ap (window c.args.limits.now.head) c.as_slice.ensures.value) c.in-Open.ensures.0 c.in-Open.ensures.1 (omega (arith, c.if-len-max.true, c.max.ensures, c.len.ensures)))

pub returns-in-AtEnd-clause-watch : goal.returns-in-AtEnd-clause-watch
returns-in-AtEnd-clause-watch g c = (
  kept_more c.args.held.now.items c.reads.held.items c.fill.new.held.items _ _ _ _ _ _ c.reads.invariant.0 c.in-AtEnd.ensures.bytes.1,
  subst (IsPart c.args.limits.now) (sym c.in-AtEnd.ensures.bytes.0) (part_here c.args.limits.now c.reads.held.items c.window.result.now (c.window.ensures ∙ ap (window c.args.limits.now.head) c.as_slice.ensures.value) c.in-Open.ensures.0 c.in-Open.ensures.1 (omega (arith, c.if-len-max.false, c.max.ensures, c.len.ensures))),
  ends_more c.args.held.now.items c.reads.held.items _ _ _ _ _ _ c.reads.invariant.0 c.in-AtEnd.ensures.bytes.2,
)

pub returns-in-Failed-clause-watch : goal.returns-in-Failed-clause-watch
returns-in-Failed-clause-watch g c = (
  kept_more c.args.held.now.items c.reads.held.items c.fill.new.held.items _ _ _ _ _ _ c.reads.invariant.0 c.in-Failed.ensures.bytes.1,
  subst (IsPart c.args.limits.now) (sym c.in-Failed.ensures.bytes.0) (part_here c.args.limits.now c.reads.held.items c.window.result.now (c.window.ensures ∙ ap (window c.args.limits.now.head) c.as_slice.ensures.value) c.in-Open.ensures.0 c.in-Open.ensures.1 (omega (arith, c.if-len-max.false, c.max.ensures, c.len.ensures))),
)
