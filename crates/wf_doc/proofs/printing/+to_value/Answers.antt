use Rattle.std.proofs.Common.{◌∙◌, ap}
use Rattle.serde_json.specs.View.{members_view}
use Rattle.serde_json.proofs.Views.{members_view-insert_entry}
use Rattle.wf_doc.specs.Json.{data_of}
use Rattle.wf_doc.proofs.JsonLemmas.{table_more, list_done, table_done}
use Rattle.wf_doc.proofs.printing.+to_value.Goals as goal

pub loop-entry-preserved : goal.loop-entry-preserved
loop-entry-preserved t c = (
  ap members_view c.in_ok-insert-in-Table.ensures.entries ∙ members_view-insert_entry c.loop-entry.made.entries c.in_ok-key-in-Table.key c.in_ok-member-in-Table.member
      ∙ table_more c.entries-entry-items.result.now c.loop-entry.entry-index c.entry-item.result _ _ _ c.loop-entry.invariant.1 c.loop-entry-test.true c.entry-item.is c.loop-entry.invariant.0 (c.in_ok-key-in-Table.ensures.ok ∙ c.as_str-in-loop-entry.ensures.bytes ∙ c.key.ensures) (c.in_ok-member-in-Table.ensures ∙ ap data_of c.value.ensures),
  c.loop-entry.invariant.1,
)

pub returns-after-loop-item : goal.returns-after-loop-item
returns-after-loop-item t c = list_done c.args.doc.now c.in-List.items c.as_slice-item-items.result.now c.loop-item.made c.loop-item.item-index c.in-List.is c.as_slice-item-items.ensures c.loop-item-test.false c.loop-item.invariant

pub returns-after-loop-entry : goal.returns-after-loop-entry
returns-after-loop-entry t c = table_done c.args.doc.now c.in-Table.fields c.entries-entry-items.result.now c.loop-entry.made c.loop-entry.entry-index c.in-Table.is c.entries-entry-items.ensures.value c.loop-entry-test.false c.loop-entry.invariant.0
