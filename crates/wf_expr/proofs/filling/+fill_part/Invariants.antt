use Rattle.std.proofs.Common.{◌≡◌, ◌+◌, ◌≤◌, length, map, take}
use Rattle.std.specs.List.{sum_by}
use Rattle.wf_doc.specs.Doc.{largest}
use Rattle.wf_doc.specs.Fields.{IsOrdered}
use Rattle.wf_expr.specs.Filling.{filled, filled_entry}
use Rattle.wf_expr.proofs.FillLemmas.{entry_depth, entry_length, frame, item_depth, item_length}
use Rattle.wf_expr.proofs.filling.+fill_part.Given as goal

abbrev pub invariant-fill_items-loop-item : goal.invariant-fill_items-loop-item
invariant-fill_items-loop-item g l = record {
  made : l.made ≡ map (filled (g.S.Scope.names l.scope)) (take l.item-index l.item-items);
  items : l.item-items ≡ l.items;
  left : l.room.bytes + (sum_by (item_length (g.S.Scope.names l.scope)) (take l.item-index l.item-items) + frame (length l.item-items)) ≡ l.fn.room.bytes;
  deep : largest (map (item_depth (g.S.Scope.names l.scope)) (take l.item-index l.item-items)) ≤ l.inner;
}

abbrev pub invariant-fill_fields-loop-entry : goal.invariant-fill_fields-loop-entry
invariant-fill_fields-loop-entry g l = record {
  made : l.made ≡ map (filled_entry (g.S.Scope.names l.scope)) (take l.entry-index l.entry-items);
  items : l.entry-items ≡ l.fields;
  rises : IsOrdered l.fields;
  left : l.room.bytes + (sum_by (entry_length (g.S.Scope.names l.scope)) (take l.entry-index l.entry-items) + frame (length l.entry-items)) ≡ l.fn.room.bytes;
  deep : largest (map (entry_depth (g.S.Scope.names l.scope)) (take l.entry-index l.entry-items)) ≤ l.inner;
}
