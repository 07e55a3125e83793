-- What is searched and made when the server ends something, over lists and tables.
use Rattle.std.specs.Prelude.{ℕ, Bool, false, ◌==◌, ◌&&◌, if◌then◌else◌, List, [], ◌∷◌, ◌-◌, drop, length, slice_get, Option, None, Some}
use Rattle.std.specs.Option.{option_map_or}
use Rattle.std.specs.Fmt.{decimal}
use Rattle.wf_doc.specs.declared.doc.Doc.{Doc}
use Rattle.wf_doc.specs.declared.doc.Doc.TheVariants.{Table}
use Rattle.wf_doc.specs.declared.fields.Entry.{Entry}
use Rattle.wf_doc.specs.Fields.{put}
use Rattle.wf_machine.specs.declared.definition.Branch.{Branch, out-Branch}
use Rattle.wf_machine.specs.declared.definition.Node.{Node}
use Rattle.wf_machine.specs.Marks.{all_nodes, inside_kind, last_of}
use Rattle.wf_machine.specs.Records.{is_fork}
use Rattle.wf_machine.specs.Sight.{Seen}
use Rattle.wf_machine.specs.State.{empty_table}
use Rattle.wf_rules.specs.Outputs.{output_of, joined_ends, with_key}
use Rattle.wf_rules.specs.Rules.{last_node}

-- ---- the FORK_JOIN before a node

-- the index of the first node of a list that `next` stands behind
abbrev pub head_index : Option ℕ → List Node → Option ℕ
head_index next [] = next
head_index next (n ∷ rest) = Some n.index

abbrev pub stands_at : ℕ → Option ℕ → Bool
stands_at index None = false
stands_at index (Some k) = k == index

-- the node is a FORK_JOIN, and the index is that of the node after it
abbrev pub is_joined : ℕ → Option ℕ → Node → Bool
is_joined index after n = is_fork n.kind && stands_at index after

-- the first FORK_JOIN of a flattened list that is followed by the node of that index
abbrev pub fork_before : ℕ → Option ℕ → List Node → Option Node
fork_before index next [] = None
fork_before index next (n ∷ rest) =
    if is_joined index (head_index next (drop (length (inside_kind n.kind)) rest)) n then Some n else fork_before index next rest

-- the node itself, or the first inside it
abbrev pub fork_here : ℕ → Option ℕ → Node → Option Node
fork_here index after n = if is_joined index after n then Some n else fork_before index after (inside_kind n.kind)

-- ---- the ends of branches

abbrev pub branch_end : Branch → Option Node
branch_end b = slice_get (out-Branch b).nodes (length (out-Branch b).nodes - 1)

-- ---- tables of outputs

-- the entries with a node's reference and the output of its last attempt
abbrev pub end_put : List Seen → ℕ → Option Node → List (Entry Doc) → List (Entry Doc)
end_put attempts i None fs = fs
end_put attempts i (Some n) fs = put n.reference (output_of (last_of attempts n.index i)) fs

abbrev pub ends_put : List Seen → ℕ → List (Option Node) → List (Entry Doc) → List (Entry Doc)
ends_put attempts i [] fs = fs
ends_put attempts i (n ∷ ns) fs = ends_put attempts i ns (end_put attempts i n fs)

-- the same where the node has an attempt
abbrev pub last_put : List ℕ → Option Seen → List (Entry Doc) → List (Entry Doc)
last_put reference None fs = fs
last_put reference (Some a) fs = put reference a.output fs

abbrev pub outputs_put : List Seen → ℕ → List Node → List (Entry Doc) → List (Entry Doc)
outputs_put attempts turn [] fs = fs
outputs_put attempts turn (n ∷ ns) fs = outputs_put attempts turn ns (last_put n.reference (last_of attempts n.index turn) fs)

-- the output of the last attempt at the last node of a list
abbrev pub last_output_of : List Seen → List Node → Doc
last_output_of attempts nodes = option_map_or (λ (n : Node). output_of (last_of attempts n.index 0)) (last_node nodes) empty_table

-- what the JOIN of that index makes
abbrev pub joined_fields : List Seen → List Node → ℕ → ℕ → List (Entry Doc)
joined_fields attempts nodes index i = ends_put attempts i (joined_ends index (all_nodes nodes)) []

-- what a DO_WHILE has in its output when its body, these nodes, is done in that turn
abbrev pub turned_doc : List Seen → ℕ → List Node → Doc → Doc
turned_doc attempts turn nodes output = with_key (decimal turn) (Table (outputs_put attempts turn nodes [])) output
