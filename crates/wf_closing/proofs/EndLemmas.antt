-- What the branches before a JOIN end with, and documents made of tables.
use Rattle.std.proofs.Common.{◌≡◌, ◌∙◌, sym, ap, refl, ℕ, zero, suc, ◌+◌, ◌-◌, ◌<◌, ◌≤◌, ◌==◌, Bool, true, false, if◌then◌else◌, List, [], ◌∷◌, map, drop, length, get_or, slice_get, arith}
use Rattle.std.proofs.lemmas.List.{drop_more}
use Rattle.std.proofs.Math.ListN.{drop_of_length-le}
use Rattle.std.specs.declared.option.Option.{Option}
use Rattle.std.specs.declared.option.Option.TheVariants.{None, Some}
use Rattle.std.specs.Option.{option_map_or}
use Rattle.std.specs.Fmt.{decimal}
use Rattle.wf_doc.specs.declared.doc.Doc.{Doc}
use Rattle.wf_doc.specs.declared.doc.Doc.TheOpen.{Doc-F}
use Rattle.wf_doc.specs.declared.doc.Doc.TheVariants.{Table, rolls-Table}
use Rattle.wf_doc.specs.declared.doc.Doc.TheViews.{out-Doc, out-roll-Doc}
use Rattle.wf_doc.specs.declared.fields.Entry.{Entry}
use Rattle.wf_doc.specs.Fields.{put}
use Rattle.wf_machine.specs.declared.definition.Branch.{Branch, Branch', out-Branch, outs-Branch'}
use Rattle.wf_machine.specs.declared.definition.Count.{Count}
use Rattle.wf_machine.specs.declared.definition.Node.{Node}
use Rattle.wf_machine.specs.declared.definition.NodeKind.{Fork, Loop, Row_of-Branch, end_of-Branch, more_of-Branch, items-the_row-Branch, items_hidden-the_row-Branch-0, Row_of-Node, end_of-Node, more_of-Node, items-the_row-Node, items_shown-the_row-Node-1}
use Rattle.wf_machine.specs.declared.definition.NodeKind.TheBlock.{hidden-the_row-Branch-0}
use Rattle.wf_machine.specs.Marks.{all_nodes, inside_kind, last_of}
use Rattle.wf_machine.specs.Sight.{Seen}
use Rattle.wf_rules.specs.Sight.{Sight}
use Rattle.wf_rules.specs.Outputs.{branch_ends, end_of, ends_of, entries_of, join_output, joined_ends, turn_outputs, turned_output, turns_on, with_end, with_ends, with_key, with_last}
use Rattle.wf_rules.specs.Rules.{turn_of_loop, turned_on}
use Rattle.wf_wire.specs.declared.limits.Limits.{Limits}
use Rattle.wf_flow.proofs.RowLemmas.{inside_loop}
use Rattle.wf_closing.specs.Closing.{branch_end, end_put, ends_put, fork_before, head_index, is_joined, joined_fields, last_put, outputs_put, stands_at, turned_doc}

-- ---- the FORK_JOIN before a JOIN

next_at : (index k : ℕ) (rest : List Node) → option_map_or (λ (m : Node). m.index == index) (slice_get rest k) false ≡ stands_at index (head_index None (drop k rest))
next_at index zero [] = refl
next_at index zero (m ∷ rest) = refl
next_at index (suc k) [] = refl
next_at index (suc k) (m ∷ rest) = next_at index k rest

abbrev ends_at : Option Node → List (Option Node)
ends_at None = []
ends_at (Some n) = branch_ends n.kind

by_test : (t : Bool) (n : Node) (o : Option Node) → (if t then branch_ends n.kind else ends_at o) ≡ ends_at (if t then Some n else o)
by_test true n o = refl
by_test false n o = refl

joined_at : (index : ℕ) (nodes : List Node) → joined_ends index nodes ≡ ends_at (fork_before index None nodes)
joined_at index [] = refl
joined_at index (n ∷ rest) =
    rw (next_at index (length (inside_kind n.kind)) rest, joined_at index rest)
    (by_test (is_joined index (head_index None (drop (length (inside_kind n.kind)) rest)) n) n (fork_before index None rest))

pub ends_found : (f : List Seen) (nodes : List Node) (index i : ℕ) (fork : Node) → fork_before index None (all_nodes nodes) ≡ Some fork
    → ends_put f i (branch_ends fork.kind) [] ≡ joined_fields f nodes index i
ends_found f nodes index i fork found = sym (ap (λ ns. ends_put f i ns []) (joined_at index (all_nodes nodes) ∙ ap ends_at found))

pub ends_missing : (f : List Seen) (nodes : List Node) (index i : ℕ) → fork_before index None (all_nodes nodes) ≡ None → [] ≡ joined_fields f nodes index i
ends_missing f nodes index i missing = sym (ap (λ ns. ends_put f i ns []) (joined_at index (all_nodes nodes) ∙ ap ends_at missing))

-- ---- the ends of branches

abbrev end_or : Option Node → List Node → Option Node
end_or found [] = found
end_or found (n ∷ rest) = end_or (Some n) rest

row_end : {m : _} (found : Option Node) (r : Row_of-Node m) → end_of found r ≡ end_or found (items-the_row-Node m r)
row_end found end_of-Node = refl
row_end found (more_of-Node index name reference optional start_delay input kind rest) =
    row_end
    (Some
    (record {
      index = index;
      name = name;
      reference = reference;
      optional = optional;
      start_delay = start_delay;
      input = input;
      kind = kind;
    }))
    rest

last_at : (n : Node) (rest : List Node) → end_or (Some n) rest ≡ slice_get (n ∷ rest) (length rest)
last_at n [] = refl
last_at n (m ∷ rest) = last_at m rest

last_of_list : (nodes : List Node) → end_or None nodes ≡ slice_get nodes (length nodes - 1)
last_of_list [] = refl
last_of_list (n ∷ rest) = let e : length (n ∷ rest) - 1 ≡ length rest = omega arith in rw e (last_at n rest)

ends_all : {m : _} (r : Row_of-Branch m) → ends_of r ≡ map branch_end (items-the_row-Branch m r)
ends_all end_of-Branch = refl
ends_all (more_of-Branch (Branch' s nodes) rest) =
    let listed : items-the_row-Node _ nodes ≡ (out-Branch (Branch' s nodes)).nodes = sym (items_shown-the_row-Node-1 s nodes) ∙ ap (λ b. b.nodes) (sym (outs-Branch' s nodes)) in
    let inner : end_of None nodes ≡ branch_end (Branch' s nodes) = row_end None nodes ∙ ap (end_or None) listed ∙ last_of_list (out-Branch (Branch' s nodes)).nodes in
    rw (inner, ends_all rest) refl

pub fork_ends : (branches : List Branch) → branch_ends (Fork branches) ≡ map branch_end branches
fork_ends branches = ends_all (hidden-the_row-Branch-0 branches) ∙ ap (map branch_end) (items_hidden-the_row-Branch-0 branches)

-- ---- tables

layer_of : (fs : List (Entry Doc)) → out-Doc (Table fs) ≡ Doc-F.Table fs
layer_of fs = ap out-Doc (sym (rolls-Table fs)) ∙ out-roll-Doc (Doc-F.Table fs)

abbrev entries_here : Doc-F Doc → List (Entry Doc)
entries_here (Doc-F.Table es) = es
entries_here d = []

entries_out : (x : Doc-F Doc) (d : Doc) → out-Doc d ≡ x → entries_of d ≡ entries_here x
entries_out Doc-F.Null d is = rw is refl
entries_out (Doc-F.Bool b) d is = rw is refl
entries_out (Doc-F.Int z) d is = rw is refl
entries_out (Doc-F.Text t) d is = rw is refl
entries_out (Doc-F.List ds) d is = rw is refl
entries_out (Doc-F.Table es) d is = rw is refl

entries_in : (fs : List (Entry Doc)) → fs ≡ entries_of (Table fs)
entries_in fs = sym (entries_out (Doc-F.Table fs) (Table fs) (layer_of fs))

set_in : (key : List ℕ) (value : Doc) (fs : List (Entry Doc)) → with_key key value (Table fs) ≡ Table (put key value fs)
set_in key value fs = ap (λ es. Table (put key value es)) (sym (entries_in fs))

end_in : (s : Sight) (i : ℕ) (n : Option Node) (fs : List (Entry Doc)) → with_end s i n (Table fs) ≡ Table (end_put s.attempts i n fs)
end_in s i None fs = refl
end_in s i (Some n) fs = set_in n.reference _ fs

ends_in : (s : Sight) (i : ℕ) (ns : List (Option Node)) (fs : List (Entry Doc)) → with_ends s i ns (Table fs) ≡ Table (ends_put s.attempts i ns fs)
ends_in s i [] fs = refl
ends_in s i (n ∷ ns) fs = ap (with_ends s i ns) (end_in s i n fs) ∙ ends_in s i ns (end_put s.attempts i n fs)

pub join_output_is : (s : Sight) (index i : ℕ) → join_output s index i ≡ Table (joined_fields s.attempts s.def.nodes index i)
join_output_is s index i = ends_in s i (joined_ends index (all_nodes s.def.nodes)) []

last_in : (reference : List ℕ) (a : Option Seen) (fs : List (Entry Doc)) → with_last reference a (Table fs) ≡ Table (last_put reference a fs)
last_in reference None fs = refl
last_in reference (Some a) fs = set_in reference a.output fs

outputs_in : (s : Sight) (turn : ℕ) (ns : List Node) (fs : List (Entry Doc)) → turn_outputs s turn ns (Table fs) ≡ Table (outputs_put s.attempts turn ns fs)
outputs_in s turn [] fs = refl
outputs_in s turn (n ∷ ns) fs =
    ap (turn_outputs s turn ns) (last_in n.reference (last_of s.attempts n.index turn) fs)
    ∙ outputs_in s turn ns (last_put n.reference (last_of s.attempts n.index turn) fs)

-- what a DO_WHILE has in its output, by its body
pub turned_output_is : (s : Sight) (turn : ℕ) (count : Count) (body : List Node) (output : Doc) → turned_output s turn (Loop count body) output ≡ turned_doc s.attempts turn (all_nodes body) output
turned_output_is s turn count body output =
    ap (λ ns. with_key (decimal turn) (turn_outputs s turn ns (Table [])) output) (inside_loop count body)
    ∙ ap (λ d. with_key (decimal turn) d output) (outputs_in s turn (all_nodes body) [])

-- what a DO_WHILE does whose body is done, by its body
pub turn_of_loop_is : (limits : Limits) (s : Sight) (p : ℕ) (a : Seen) (count : Count) (body : List Node)
    → turn_of_loop limits s p a (Loop count body) ≡ Some (turned_on limits p a.turn (turned_doc s.attempts a.turn (all_nodes body) a.output) (turns_on a.turn count a.input))
turn_of_loop_is limits s p a count body =
    ap (λ d. Some (turned_on limits p a.turn d (turns_on a.turn count a.input))) (turned_output_is s a.turn count body a.output)

-- ---- the branches, one after another

pub ends_more : (f : List Seen) (i : ℕ) (xs : List Branch) (k : ℕ) (x : Branch) (fs made : List (Entry Doc)) → k < length xs → x ≡ get_or xs k x → made ≡ end_put f i (branch_end x) fs
    → ends_put f i (map branch_end (drop (k + 1) xs)) made ≡ ends_put f i (map branch_end (drop k xs)) fs
ends_more f i xs k x fs made lt is e = rw (drop_more xs k x lt, ← is, e) refl

pub ends_whole : (f : List Seen) (i : ℕ) (xs : List Branch) (k : ℕ) (fs : List (Entry Doc)) → length xs ≤ k → ends_put f i (map branch_end (drop k xs)) fs ≡ fs
ends_whole f i xs k fs past = rw (drop_of_length-le xs past) refl
