-- The documents that rules make.
use Rattle.std.specs.Prelude.{ℕ, ℤ, pos, negsuc, zero, suc, ◌^◌, ◌==◌, ◌&&◌, ◌||◌, nat_lt, nat_le, Bool, true, false, if◌then◌else◌, List, [], ◌∷◌, drop, length, slice_get, slice_index, codes, Option, None, Some, unwrap_or, option_and_then}
use Rattle.std.specs.Option.{option_map_or}
use Rattle.std.specs.Fmt.{decimal, signed_decimal}
use Rattle.std.specs.Int.Signed.{lt_z}
use Rattle.std.specs.Str.Parse.{digits_value}
use Rattle.wf_doc.specs.declared.doc.Doc.{Doc}
use Rattle.wf_doc.specs.declared.doc.Doc.TheVariants.{Int, Text, List as Listed, Table}
use Rattle.wf_doc.specs.declared.doc.Doc.TheOpen.{Doc-F}
use Rattle.wf_doc.specs.declared.doc.Doc.TheViews.{out-Doc}
use Rattle.wf_doc.specs.declared.fields.Entry.{Entry}
use Rattle.wf_doc.specs.Doc.{as_table, depth, field}
use Rattle.wf_doc.specs.Fields.{put}
use Rattle.wf_doc.specs.Json.{printed}
use Rattle.wf_expr.specs.Filling.{filled}
use Rattle.wf_wire.specs.declared.limits.Limits.{Limits}
use Rattle.wf_machine.specs.declared.definition.Branch.{Branch'}
use Rattle.wf_machine.specs.declared.definition.Count.{Count}
use Rattle.wf_machine.specs.declared.definition.Count.TheVariants.{Number, Param}
use Rattle.wf_machine.specs.declared.definition.Node.{Node}
use Rattle.wf_machine.specs.declared.definition.NodeKind.{NodeKind, Fork', Row_of-Branch, end_of-Branch, more_of-Branch, Row_of-Node, end_of-Node, more_of-Node}
use Rattle.wf_machine.specs.declared.sight.ChildState.{ChildState}
use Rattle.wf_machine.specs.State.{empty_table}
use Rattle.wf_machine.specs.Text.{same_text}
use Rattle.wf_machine.specs.Records.{is_fork}
use Rattle.wf_machine.specs.Sight.{Seen}
use Rattle.wf_rules.specs.Sight.{Sight, Scene, told_by}
use Rattle.wf_machine.specs.Marks.{all_nodes, inside_kind, last_of}
use Rattle.wf_machine.specs.Naming.{names}
use Rattle.wf_machine.specs.Documents.{flow_id}

-- a document with each expression replaced by what it names in the flow
abbrev pub filled_in : Scene → Sight → Doc → Doc
filled_in scene s d = filled (names scene.mark (told_by s)) d

-- a document that nests deeper, or whose text is longer, than may be
abbrev pub is_too_large : Limits → Doc → Bool
is_too_large limits d = nat_lt limits.depth (depth d) || nat_lt limits.document (length (printed d))

-- the keys and values of a table; what isn't one has none
abbrev pub entries_of : Doc → List (Entry Doc)
entries_of d = unwrap_or (as_table d) []

-- the table with that key, in place of one that it had
abbrev pub with_key : List ℕ → Doc → Doc → Doc
with_key key value d = Table (put key value (entries_of d))

-- the first table with each key of the second set in it
abbrev pub with_all : List (Entry Doc) → Doc → Doc
with_all [] d = d
with_all (e ∷ es) d = with_all es (with_key e.key e.value d)

abbrev pub output_of : Option Seen → Doc
output_of None = empty_table
output_of (Some a) = a.output

-- ---- SWITCH

-- what a SWITCH chose by
abbrev pub choice_output : List ℕ → Doc
choice_output text = with_key (codes "evaluationResult") (Listed (Text text ∷ [])) empty_table

-- ---- FORK_JOIN and JOIN

-- the last node of a list
abbrev pub end_of : {m : _} → Option Node → Row_of-Node m → Option Node
end_of found end_of-Node = found
end_of found (more_of-Node index name reference optional start_delay input kind rest) =
    end_of
    (Some
    (record {
      index = index;
      name = name;
      reference = reference;
      optional = optional;
      start_delay = start_delay;
      input = input;
      kind = kind;
    }))
    rest

-- the last nodes of branches
abbrev pub ends_of : {m : _} → Row_of-Branch m → List (Option Node)
ends_of end_of-Branch = []
ends_of (more_of-Branch (Branch' s nodes) rest) = end_of None nodes ∷ ends_of rest

-- those of the branches of a FORK_JOIN
abbrev pub branch_ends : NodeKind → List (Option Node)
branch_ends (Fork' s branches) = ends_of branches
branch_ends kind = []

-- the node of that index comes directly after the node n and all inside it, where `rest` is what comes after n
abbrev pub is_next_after : ℕ → Node → List Node → Bool
is_next_after index n rest = option_map_or (λ (m : Node). m.index == index) (slice_get rest (length (inside_kind n.kind))) false

-- the ends of the branches that the JOIN of that index joins: those of the FORK_JOIN directly before it
abbrev pub joined_ends : ℕ → List Node → List (Option Node)
joined_ends index [] = []
joined_ends index (n ∷ rest) =
    if is_fork n.kind && is_next_after index n rest then branch_ends n.kind else joined_ends index rest

-- the table with a node's reference and the output of its last attempt in the iteration
abbrev pub with_end : Sight → ℕ → Option Node → Doc → Doc
with_end s i None d = d
with_end s i (Some n) d = with_key n.reference (output_of (last_of s.attempts n.index i)) d

abbrev pub with_ends : Sight → ℕ → List (Option Node) → Doc → Doc
with_ends s i [] d = d
with_ends s i (n ∷ ns) d = with_ends s i ns (with_end s i n d)

-- the output of the JOIN of that index: what each branch ended with
abbrev pub join_output : Sight → ℕ → ℕ → Doc
join_output s index i = with_ends s i (joined_ends index (all_nodes s.def.nodes)) empty_table

-- ---- DO_WHILE

abbrev pub minus : ℕ → ℤ
minus zero = pos 0
minus (suc n) = negsuc n

-- the number of this sign and size, where it fits 64 signed bits
abbrev pub signed : Bool → ℕ → Option ℤ
signed true size = if nat_le size (2 ^ 63) then Some (minus size) else None
signed false size = if nat_lt size (2 ^ 63) then Some (pos size) else None

abbrev pub has_minus : List ℕ → Bool
has_minus text = slice_index text 0 == 45

-- the number that the digits of a text say
abbrev pub number_in : List ℕ → Option ℤ
number_in text = signed (has_minus text) (digits_value 10 (if has_minus text then drop 1 text else text))

-- the number that is printed as that text
abbrev pub number_printed : List ℕ → Option ℤ
number_printed text = option_and_then (λ z. if same_text text (signed_decimal z) then Some z else None) (number_in text)

abbrev number_here : Doc-F Doc → Option ℤ
number_here (Doc-F.Int z) = Some z
number_here (Doc-F.Text text) = number_printed text
number_here d = None

-- a whole number, or the text that it is printed as
abbrev pub whole_number : Doc → Option ℤ
whole_number d = number_here (out-Doc d)

-- how often a DO_WHILE with that input turns at most, where that is a number
abbrev pub count_of : Count → Doc → Option ℤ
count_of (Number n) input = Some n
count_of (Param name) input = option_and_then whole_number (field name input)

-- the output of a DO_WHILE that begins
abbrev pub loop_output : Doc
loop_output = with_key (codes "iteration") (Int (pos 1)) empty_table

-- the table with the outputs of those nodes that have an attempt in the turn
abbrev pub with_last : List ℕ → Option Seen → Doc → Doc
with_last reference None d = d
with_last reference (Some a) d = with_key reference a.output d

abbrev pub turn_outputs : Sight → ℕ → List Node → Doc → Doc
turn_outputs s turn [] d = d
turn_outputs s turn (n ∷ ns) d = turn_outputs s turn ns (with_last n.reference (last_of s.attempts n.index turn) d)

-- the output of a DO_WHILE whose body is done in that turn
abbrev pub turned_output : Sight → ℕ → NodeKind → Doc → Doc
turned_output s turn kind output = with_key (decimal turn) (turn_outputs s turn (inside_kind kind) empty_table) output

abbrev pub is_below : ℕ → Option ℤ → Bool
is_below turn None = false
is_below turn (Some n) = lt_z (pos turn) n

-- there is a turn after this one
abbrev pub turns_on : ℕ → Count → Doc → Bool
turns_on turn count input = is_below turn (count_of count input) && nat_lt turn 2147483647

-- ---- SUB_WORKFLOW

-- what an attempt whose child has ended gets as its output
abbrev pub child_output : ℕ → ChildState → Doc
child_output mark c = with_key (codes "subWorkflowId") (Text (flow_id mark c.flow)) c.output
