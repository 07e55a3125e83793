use Rattle.std.proofs.Common.{◌≡◌, ◌+◌, ◌-◌, ◌^◌, min, take, length}
use Rattle.std.specs.List.{sum_by}
use Rattle.json.specs.Print.{quoted}
use Rattle.wf_doc.specs.Json.{printed}
use Rattle.wf_doc.proofs.print_size.+print_len.Given as goal

abbrev pub invariant-list_len-loop-item : goal.invariant-list_len-loop-item
invariant-list_len-loop-item l = l.total ≡ min (1 + sum_by (λ d. length (printed d) + 1) (take l.item-index l.item-items)) (2 ^ 64 - 1)

abbrev pub invariant-table_len-loop-entry : goal.invariant-table_len-loop-entry
invariant-table_len-loop-entry l = l.total ≡ min (1 + sum_by (λ e. length (quoted e.key) + length (printed e.value) + 2) (take l.entry-index l.entry-items)) (2 ^ 64 - 1)
