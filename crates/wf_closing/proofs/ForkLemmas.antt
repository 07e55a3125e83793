-- The FORK_JOIN before a node, found from the ends of lists on.
use Rattle.std.proofs.Common.{◌≡◌, ◌∙◌, sym, ap, refl, ℕ, ◌+◌, ◌<◌, ◌≤◌, Bool, true, false, if◌then◌else◌, List, [], ◌∷◌, ◌++◌, drop, length, get_or, length-append, Bor, arith}
use Rattle.std.specs.declared.option.Option.{Option}
use Rattle.std.specs.declared.option.Option.TheVariants.{None, Some}
use Rattle.std.specs.Option.{option_copied, option_or}
use Rattle.std.proofs.lemmas.List.{drop_more, drop-append-le}
use Rattle.wf_machine.specs.declared.definition.Branch.{Branch, out-Branch, Branch'}
use Rattle.wf_machine.specs.declared.definition.Case.{Case, out-Case, Case'}
use Rattle.wf_machine.specs.declared.definition.Cases.{Cases', Row_of-Case, end_of-Case, more_of-Case}
use Rattle.wf_machine.specs.declared.definition.Node.{Node}
use Rattle.wf_machine.specs.declared.definition.NodeKind.{NodeKind, Simple, Switch, Fork', Join, Loop', SubFlow, SetVariable, Wait, Human, Terminate, Row_of-Branch, end_of-Branch, more_of-Branch, Row_of-Node, end_of-Node, more_of-Node}
use Rattle.wf_machine.specs.Marks.{all_nodes, all_of_branches, all_of_cases, in_branches, in_cases, in_row, inside_kind}
use Rattle.wf_closing.specs.Closing.{fork_before, fork_here, head_index, is_joined}

-- ---- a node is followed by all that is inside it

abbrev IsClosed : List Node → Type 0
IsClosed [] = Unit {0}
IsClosed (n ∷ rest) = (length (inside_kind n.kind) ≤ length rest) × IsClosed rest

closed_append : (a b : List Node) → IsClosed a → IsClosed b → IsClosed (a ++ b)
closed_append [] b p q = q
closed_append (n ∷ rest) b p q = (let h = p.0 in omega (arith, h, length-append rest b), closed_append rest b p.1 q)

mutual
  closed_kind : (kind : NodeKind) → IsClosed (inside_kind kind)
  closed_kind (Switch (Cases' param s cases t nodes)) = closed_append (in_cases cases) (in_row nodes) (closed_cases cases) (closed_row nodes)
  closed_kind (Fork' s branches) = closed_branches branches
  closed_kind (Loop' count s body) = closed_row body
  closed_kind Simple = tt
  closed_kind (Join references) = tt
  closed_kind (SubFlow name version) = tt
  closed_kind SetVariable = tt
  closed_kind Wait = tt
  closed_kind Human = tt
  closed_kind Terminate = tt

  closed_row : {m : _} (r : Row_of-Node m) → IsClosed (in_row r)
  closed_row end_of-Node = tt
  closed_row (more_of-Node index name reference optional start_delay input kind rest) =
      (omega (arith, length-append (inside_kind kind) (in_row rest)), closed_append (inside_kind kind) (in_row rest) (closed_kind kind) (closed_row rest))

  closed_branches : {m : _} (r : Row_of-Branch m) → IsClosed (in_branches r)
  closed_branches end_of-Branch = tt
  closed_branches (more_of-Branch (Branch' s nodes) rest) = closed_append (in_row nodes) (in_branches rest) (closed_row nodes) (closed_branches rest)

  closed_cases : {m : _} (r : Row_of-Case m) → IsClosed (in_cases r)
  closed_cases end_of-Case = tt
  closed_cases (more_of-Case (Case' key s nodes) rest) = closed_append (in_row nodes) (in_cases rest) (closed_row nodes) (closed_cases rest)

closed_nodes : (xs : List Node) → IsClosed (all_nodes xs)
closed_nodes [] = tt
closed_nodes (n ∷ rest) =
    (omega (arith, length-append (inside_kind n.kind) (all_nodes rest)), closed_append (inside_kind n.kind) (all_nodes rest) (closed_kind n.kind) (closed_nodes rest))

closed_of_cases : (xs : List Case) → IsClosed (all_of_cases xs)
closed_of_cases [] = tt
closed_of_cases (c ∷ rest) = closed_append (all_nodes (out-Case c).nodes) (all_of_cases rest) (closed_nodes (out-Case c).nodes) (closed_of_cases rest)

-- ---- the first node of a list

head_append : (next : Option ℕ) (a b : List Node) → head_index next (a ++ b) ≡ head_index (head_index next b) a
head_append next [] b = refl
head_append next (n ∷ rest) b = refl

head_all : (next : Option ℕ) (xs : List Node) → head_index next (all_nodes xs) ≡ head_index next xs
head_all next [] = refl
head_all next (n ∷ rest) = refl

head_dropped : (next : Option ℕ) (a b : List Node) (k : ℕ) → k ≤ length a → head_index next (drop k (a ++ b)) ≡ head_index (head_index next b) (drop k a)
head_dropped next a b k within = ap (head_index next) (drop-append-le k a b within) ∙ head_append next (drop k a) b

-- ---- lists one after another

drop_front : (a b : List Node) → drop (length a) (a ++ b) ≡ b
drop_front [] b = refl
drop_front (n ∷ rest) b = drop_front rest b

or_later : (t : Bool) (n : Node) (o p : Option Node) → (if t then Some n else option_or o p) ≡ option_or (if t then Some n else o) p
or_later true n o p = refl
or_later false n o p = refl

fork_append : (index : ℕ) (next : Option ℕ) (a b : List Node) → IsClosed a → fork_before index next (a ++ b) ≡ option_or (fork_before index (head_index next b) a) (fork_before index next b)
fork_append index next [] b closed = refl
fork_append index next (n ∷ rest) b closed =
    let behind = length (inside_kind n.kind) in
    let same : head_index next (drop behind (rest ++ b)) ≡ head_index (head_index next b) (drop behind rest) = head_dropped next rest b behind closed.0 in
    ap (λ after. if is_joined index after n then Some n else fork_before index next (rest ++ b)) same
    ∙ ap (λ (o : Option Node). if is_joined index (head_index (head_index next b) (drop behind rest)) n then Some n else o) (fork_append index next rest b closed.1)
    ∙ or_later (is_joined index (head_index (head_index next b) (drop behind rest)) n) n (fork_before index (head_index next b) rest) (fork_before index next b)

-- a node before others
fork_first : (index : ℕ) (next : Option ℕ) (n : Node) (rest : List Node) → fork_before index next (all_nodes (n ∷ rest)) ≡ option_or (fork_here index (head_index next rest) n) (fork_before index next (all_nodes rest))
fork_first index next n rest =
    let inner = inside_kind n.kind in
    let behind : head_index next (drop (length inner) (inner ++ all_nodes rest)) ≡ head_index next rest = ap (head_index next) (drop_front inner (all_nodes rest)) ∙ head_all next rest in
    let parts : fork_before index next (inner ++ all_nodes rest) ≡ option_or (fork_before index (head_index next rest) inner) (fork_before index next (all_nodes rest)) =
    fork_append index next inner (all_nodes rest) (closed_kind n.kind) ∙ ap (λ after. option_or (fork_before index after inner) (fork_before index next (all_nodes rest))) (head_all next rest) in
    ap (λ after. if is_joined index after n then Some n else fork_before index next (inner ++ all_nodes rest)) behind
    ∙ ap (λ (o : Option Node). if is_joined index (head_index next rest) n then Some n else o) parts
    ∙ or_later (is_joined index (head_index next rest) n) n (fork_before index (head_index next rest) inner) (fork_before index next (all_nodes rest))

fork_nodes : (index : ℕ) (next : Option ℕ) (nodes : List Node) (rest : List Node) → fork_before index next (all_nodes nodes ++ rest) ≡ option_or (fork_before index (head_index next rest) (all_nodes nodes)) (fork_before index next rest)
fork_nodes index next nodes rest = fork_append index next (all_nodes nodes) rest (closed_nodes nodes)

head_nodes : (next : Option ℕ) (nodes rest : List Node) → head_index next (all_nodes nodes ++ rest) ≡ head_index (head_index next rest) nodes
head_nodes next nodes rest = head_append next (all_nodes nodes) rest ∙ head_all (head_index next rest) nodes

-- references, read
pub copied_or : (a b : Option (Bor Node)) → option_copied (option_or a b) ≡ option_or (option_copied a) (option_copied b)
copied_or None b = refl
copied_or (Some x) b = refl

-- ---- one step towards the front

pub node_step : (index : ℕ) (next after : Option ℕ) (xs : List Node) (k : ℕ) (x : Node) (here found : Option Node) → k < length xs → x ≡ get_or xs k x
    → here ≡ fork_here index after x → after ≡ head_index next (drop (k + 1) xs) → found ≡ fork_before index next (all_nodes (drop (k + 1) xs))
    → option_or here found ≡ fork_before index next (all_nodes (drop k xs))
node_step index next after xs k x here found lt is at behind later =
    rw (drop_more xs k x lt, ← is) (rw (at, behind, later) (sym (fork_first index next x (drop (k + 1) xs))))

pub node_head : (next : Option ℕ) (xs : List Node) (k : ℕ) (x : Node) → k < length xs → x ≡ get_or xs k x → Some x.index ≡ head_index next (drop k xs)
node_head next xs k x lt is = rw (drop_more xs k x lt, ← is) refl

pub branch_step : (index : ℕ) (next after : Option ℕ) (xs : List Branch) (k : ℕ) (x : Branch) (here found : Option Node) → k < length xs → x ≡ get_or xs k x
    → here ≡ fork_before index after (all_nodes (out-Branch x).nodes) → after ≡ head_index next (all_of_branches (drop (k + 1) xs)) → found ≡ fork_before index next (all_of_branches (drop (k + 1) xs))
    → option_or here found ≡ fork_before index next (all_of_branches (drop k xs))
branch_step index next after xs k x here found lt is at behind later =
    rw (drop_more xs k x lt, ← is) (rw (at, behind, later) (sym (fork_nodes index next (out-Branch x).nodes (all_of_branches (drop (k + 1) xs)))))

pub branch_head : (next after : Option ℕ) (xs : List Branch) (k : ℕ) (x : Branch) → k < length xs → x ≡ get_or xs k x → after ≡ head_index next (all_of_branches (drop (k + 1) xs))
    → head_index after (out-Branch x).nodes ≡ head_index next (all_of_branches (drop k xs))
branch_head next after xs k x lt is behind =
    rw (drop_more xs k x lt, ← is) (rw behind (sym (head_nodes next (out-Branch x).nodes (all_of_branches (drop (k + 1) xs)))))

pub case_step : (index : ℕ) (next after : Option ℕ) (xs : List Case) (k : ℕ) (x : Case) (here found : Option Node) → k < length xs → x ≡ get_or xs k x
    → here ≡ fork_before index after (all_nodes (out-Case x).nodes) → after ≡ head_index next (all_of_cases (drop (k + 1) xs)) → found ≡ fork_before index next (all_of_cases (drop (k + 1) xs))
    → option_or here found ≡ fork_before index next (all_of_cases (drop k xs))
case_step index next after xs k x here found lt is at behind later =
    rw (drop_more xs k x lt, ← is) (rw (at, behind, later) (sym (fork_nodes index next (out-Case x).nodes (all_of_cases (drop (k + 1) xs)))))

pub case_head : (next after : Option ℕ) (xs : List Case) (k : ℕ) (x : Case) → k < length xs → x ≡ get_or xs k x → after ≡ head_index next (all_of_cases (drop (k + 1) xs))
    → head_index after (out-Case x).nodes ≡ head_index next (all_of_cases (drop k xs))
case_head next after xs k x lt is behind =
    rw (drop_more xs k x lt, ← is) (rw behind (sym (head_nodes next (out-Case x).nodes (all_of_cases (drop (k + 1) xs)))))

-- the cases of a SWITCH before its default list
pub choice_parts : (index : ℕ) (after : Option ℕ) (cases : List Case) (nodes : List Node)
    → option_or (fork_before index (head_index after nodes) (all_of_cases cases)) (fork_before index after (all_nodes nodes)) ≡ fork_before index after (all_of_cases cases ++ all_nodes nodes)
choice_parts index after cases nodes =
    sym (fork_append index after (all_of_cases cases) (all_nodes nodes) (closed_of_cases cases)
    ∙ ap (λ behind. option_or (fork_before index behind (all_of_cases cases)) (fork_before index after (all_nodes nodes))) (head_all after nodes))
