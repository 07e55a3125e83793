use Rattle.std.proofs.Common.{◌≡◌, map, take}
use Rattle.serde_json.specs.View.{view, members_view}
use Rattle.wf_doc.specs.Json.{data_of}
use Rattle.wf_doc.specs.Fields.{IsOrdered}
use Rattle.wf_doc.proofs.JsonLemmas.{docs_members}
use Rattle.wf_doc.proofs.printing.+to_value.Given as goal

abbrev pub invariant-loop-item : goal.invariant-loop-item
invariant-loop-item l = map view l.made.items ≡ map data_of (take l.item-index l.item-items)

abbrev pub invariant-loop-entry : goal.invariant-loop-entry
invariant-loop-entry l = (members_view l.made.entries ≡ docs_members (take l.entry-index l.entry-items)) × IsOrdered l.entry-items
