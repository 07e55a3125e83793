use Rattle.std.proofs.Common.{arith, ap}
use Rattle.wf_doc.specs.Doc.{depth as nesting}
use Rattle.wf_doc.proofs.DocLemmas.{most_more, depth_list_all, depth_table_all}
use Rattle.wf_doc.proofs.doc.+depth.Goals as goal

pub loop-item-preserved : goal.loop-item-preserved
loop-item-preserved t c = omega (
  arith,
  c.max-most.ensures,
  c.depth.ensures,
  c.loop-item.invariant,
  most_more nesting c.as_slice-item-items.result.now c.loop-item.item-index c.item-item.result c.loop-item-test.true c.item-item.is,
)

pub loop-entry-preserved : goal.loop-entry-preserved
loop-entry-preserved t c = omega (
  arith,
  c.max-most-in-loop-entry.ensures,
  c.depth-in-loop-entry.ensures,
  ap nesting c.value.ensures,
  c.loop-entry.invariant,
  most_more (λ e. nesting e.value) c.entries-entry-items.result.now c.loop-entry.entry-index c.entry-item.result c.loop-entry-test.true c.entry-item.is,
)

pub returns-after-loop-item : goal.returns-after-loop-item
returns-after-loop-item t c = omega (
  arith,
  c.saturating_add.ensures,
  c.loop-item.invariant,
  depth_list_all c.args.doc.now c.in-List.items c.as_slice-item-items.result.now c.loop-item.item-index c.in-List.is c.as_slice-item-items.ensures (omega (arith, c.loop-item-test.false)),
)

pub returns-after-loop-entry : goal.returns-after-loop-entry
returns-after-loop-entry t c = omega (
  arith,
  c.saturating_add-in-Table.ensures,
  c.loop-entry.invariant,
  depth_table_all c.args.doc.now c.in-Table.fields c.entries-entry-items.result.now c.loop-entry.entry-index c.in-Table.is c.entries-entry-items.ensures.value (omega (arith, c.loop-entry-test.false)),
)
