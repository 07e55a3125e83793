use Rattle.std.proofs.Common.{arith}
use Rattle.wf_doc.proofs.SizeLemmas.{list_done, table_done}
use Rattle.wf_doc.proofs.print_size.+print_len.Goals as goal

pub list_len-returns : goal.list_len-returns
list_len-returns t c = omega (
  arith,
  c.loop-item.invariant,
  list_done c.args.items.now c.as_slice-item-items.result.now c.loop-item.item-index c.as_slice-item-items.ensures (omega (arith, c.loop-item-test.false)),
)

pub table_len-returns : goal.table_len-returns
table_len-returns t c = omega (
  arith,
  c.loop-entry.invariant,
  table_done c.args.fields.now c.entries-entry-items.result.now c.loop-entry.entry-index c.entries-entry-items.ensures.value (omega (arith, c.loop-entry-test.false)),
)
