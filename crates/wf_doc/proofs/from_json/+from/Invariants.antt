use Rattle.std.proofs.Common.{◌≡◌, ◌++◌, drop, option_map, nat_cmp}
use Rattle.std.specs.Cmp.Lexicographic.{slice_cmp}
use Rattle.std.specs.List.Sorted.{IsStrictlySortedBy}
use Rattle.serde_json.specs.View.{items_view, members_view}
use Rattle.wf_doc.specs.Json.{docs_of, entries_of}
use Rattle.wf_doc.specs.Fields.{keys}
use Rattle.wf_doc.proofs.JsonLemmas.{names}
use Rattle.wf_doc.proofs.from_json.+from.Given as goal

abbrev pub invariant-from_map-loop-key : goal.invariant-from_map-loop-key
invariant-from_map-loop-key l =
    (entries_of (members_view l.map.entries) ≡ option_map (λ rest. l.made ++ rest) (entries_of (members_view l.key-iterator)))
    × IsStrictlySortedBy (slice_cmp nat_cmp) (keys l.made ++ names l.key-iterator)

abbrev pub invariant-from_values-loop-value : goal.invariant-from_values-loop-value
invariant-from_values-loop-value l =
    docs_of (items_view l.values) ≡ option_map (λ rest. l.made ++ rest) (docs_of (items_view (drop l.value-index l.values)))
