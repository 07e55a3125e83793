-- A document that breaks no rule is a definition whose loops fit.
use Rattle.std.proofs.Common.{◌≡◌, ℕ, zero, suc, ◌+◌, ◌-◌, ◌==◌, ◌||◌, not, Bool, true, false, if◌then◌else◌, List, [], ◌∷◌, ◌++◌, map, length, slice_get, codes, Option, None, Some, refl, sym, ◌∙◌, ap, subst, arith}
use Rattle.std.proofs.lemmas.Bool.Decides.{nat_tests}
use Rattle.std.proofs.lemmas.List.Elements.{All-nil, All-cons, All-head, All-tail, All-append, All-take, All-weaker}
use Rattle.std.proofs.lemmas.List.Folds.{list_any-append, list_any_none}
use Rattle.std.specs.Prelude.{unwrap_or}
use Rattle.std.specs.List.{All, list_any}
use Rattle.std.specs.Option.{option_or}
use Rattle.wf_doc.specs.declared.doc.Doc.{Doc}
use Rattle.wf_doc.specs.declared.fields.Entry.{Entry}
use Rattle.wf_machine.specs.declared.definition.Node.{Node}
use Rattle.wf_machine.specs.declared.definition.Count.{Count}
use Rattle.wf_machine.specs.declared.definition.Case.{out-Case, Case', outs-Case', out-roll-Case}
use Rattle.wf_machine.specs.declared.definition.Branch.{Branch, out-Branch, Branch', outs-Branch', out-roll-Branch}
use Rattle.wf_machine.specs.declared.definition.Cases.{Cases, out-Cases, Cases', outs-Cases', out-roll-Cases, Row_of-Case, end_of-Case, more_of-Case, items-the_row-Case, items_shown-the_row-Case-2}
use Rattle.wf_machine.specs.declared.definition.NodeKind.{NodeKind, Simple, Switch, Fork, Fork', Join, Loop, Loop', SubFlow, SetVariable, Wait, Human, Terminate, Row_of-Branch, end_of-Branch, more_of-Branch, items-the_row-Branch, items_hidden-the_row-Branch-0, Row_of-Node, end_of-Node, more_of-Node, items-the_row-Node, items_shown-the_row-Node-1, items_hidden-the_row-Node-1}
use Rattle.wf_machine.specs.declared.definition.NodeKind.TheBlock.{hidden-the_row-Node-1, hidden-the_row-Branch-0}
use Rattle.wf_machine.specs.Nodes.{all_nodes, all_of_branches, all_of_cases, in_row, in_branches, in_cases, inside_kind, is_loop}
use Rattle.wf_machine.specs.Text.{same_text}
use Rattle.wf_rules.specs.Loops.{LoopsFit, begins_with, first_index, head_of, heads, is_bad_loop, is_loop_node, is_pair, pair_with}
use Rattle.wf_fields.specs.Fields.{unless}
use Rattle.wf_defs.specs.Faults.{or_first_of, first_broken, fault_at}
use Rattle.wf_defs.specs.Nodes.{Listed, Site, all_sites, body, body_list, branches, branch_list, branch_lists, case_list, case_lists, cases, default_list, field_place, fork_lists, is_type, item_place, lists_inside, reference_of, site, sites_from, sites_inside, sites_of, sites_of_lists, switch_lists, top_list, type_of}
use Rattle.wf_defs.specs.NodeRules.{body_rule, broken_node_rule, condition_rule, field_rules, joined, joined_rule, left_out_rule, loop_rule, pair_rule, room_rule, sub_flow_rule, sub_name, switch_rule}
use Rattle.wf_defs.specs.NodeReading.{all_but_last, branch_of, case_of, cases_of, choice_with, count_of, kind_at, kind_with, last_of, node_at, nodes_from, nodes_of, nodes_of_lists, plain_kind, sub_version}
use Rattle.wf_defs.specs.FlowRules.{broken_flow_rule, first_fault, flow_rule, site_fault}
use Rattle.wf_defs.specs.FlowReading.{flow_definition}

-- ---- the nodes inside a node, at the lists that it is made of

row_all : {m : _} (r : Row_of-Node m) → in_row r ≡ all_nodes (items-the_row-Node m r)
row_all end_of-Node = refl
row_all (more_of-Node index name reference optional start_delay input kind rest) =
    ap
    (λ l. record {
      index = index;
      name = name;
      reference = reference;
      optional = optional;
      start_delay = start_delay;
      input = input;
      kind = kind;
    } ∷ inside_kind kind ++ l)
    (row_all rest)

branches_all : {m : _} (r : Row_of-Branch m) → in_branches r ≡ all_of_branches (items-the_row-Branch m r)
branches_all end_of-Branch = refl
branches_all (more_of-Branch (Branch' s nodes) rest) =
    let inner = row_all nodes ∙ ap all_nodes (sym (items_shown-the_row-Node-1 s nodes) ∙ ap (λ b. b.nodes) (sym (outs-Branch' s nodes))) in
    rw (inner, branches_all rest) refl

cases_all : {m : _} (r : Row_of-Case m) → in_cases r ≡ all_of_cases (items-the_row-Case m r)
cases_all end_of-Case = refl
cases_all (more_of-Case (Case' key s nodes) rest) =
    let inner = row_all nodes ∙ ap all_nodes (sym (items_shown-the_row-Node-1 s nodes) ∙ ap (λ c. c.nodes) (sym (outs-Case' key s nodes))) in
    rw (inner, cases_all rest) refl

inside_fork : (branches : List Branch) → inside_kind (Fork branches) ≡ all_of_branches branches
inside_fork branches = branches_all (hidden-the_row-Branch-0 branches) ∙ ap all_of_branches (items_hidden-the_row-Branch-0 branches)

body_all : (nodes : List Node) → in_row (hidden-the_row-Node-1 nodes) ≡ all_nodes nodes
body_all nodes = row_all (hidden-the_row-Node-1 nodes) ∙ ap all_nodes (items_hidden-the_row-Node-1 nodes)

inside_switch : (choice : Cases) → inside_kind (Switch choice) ≡ all_of_cases (out-Cases choice).cases ++ all_nodes (out-Cases choice).otherwise
inside_switch (Cases' param s cases t nodes) =
    let one = cases_all cases ∙ ap all_of_cases (sym (items_shown-the_row-Case-2 s cases) ∙ ap (λ c. c.cases) (sym (outs-Cases' param s cases t nodes))) in
    let two = row_all nodes ∙ ap all_nodes (sym (items_shown-the_row-Node-1 t nodes) ∙ ap (λ c. c.otherwise) (sym (outs-Cases' param s cases t nodes))) in
    rw (one, two) refl

abbrev index_first : List Node → Option ℕ
index_first [] = None
index_first (n ∷ rest) = Some n.index

row_first : {m : _} (r : Row_of-Node m) → first_index r ≡ index_first (items-the_row-Node m r)
row_first end_of-Node = refl
row_first (more_of-Node index name reference optional start_delay input kind rest) = refl

body_first : (nodes : List Node) → first_index (hidden-the_row-Node-1 nodes) ≡ index_first nodes
body_first nodes = row_first (hidden-the_row-Node-1 nodes) ∙ ap index_first (items_hidden-the_row-Node-1 nodes)

-- ---- the rule of DO_WHILEs, of each node

abbrev Obeys : Site → Type 0
Obeys s = loop_rule s.node s.looped ≡ None

neither : {T : Type 0} (a b : Option T) → option_or a b ≡ None → (a ≡ None) × (b ≡ None)
neither None b h = (refl, h)
neither (Some x) b h = cc

kept : (b : Bool) (place : List ℕ) → unless b place ≡ None → b ≡ true
kept true place h = refl
kept false place h = cc

no_fault : (table : List ℕ) (broken : Option (ℕ × List ℕ)) → fault_at table broken ≡ None → broken ≡ None
no_fault table None h = refl
no_fault table (Some b) h = cc

both_kept : (rule : ℕ) (place : Option (List ℕ)) (later : Option (ℕ × List ℕ)) → or_first_of rule place later ≡ None → (place ≡ None) × (later ≡ None)
both_kept rule None later h = (refl, h)
both_kept rule (Some place) later h = cc

-- where no rule is broken, one among them isn't
one_kept : (rules more : List (ℕ × Option (List ℕ))) (rule : ℕ) (place : Option (List ℕ)) → first_broken (rules ++ (rule, place) ∷ more) ≡ None → place ≡ None
one_kept [] more rule place h = (both_kept rule place (first_broken more) h).0
one_kept (r ∷ rules) more rule place h =
    one_kept rules more rule place (both_kept r.0 r.1 (first_broken (rules ++ (rule, place) ∷ more)) h).1

site_obeys : (most : ℕ) (earlier : List (List ℕ)) (s : Site) → site_fault most earlier s ≡ None → Obeys s
unfolding broken_node_rule
site_obeys most earlier s h =
    one_kept
    (field_rules earlier s.node ++ (9, switch_rule s.node) ∷ (10, pair_rule s.node s.before s.after) ∷ (11, joined_rule s.node s.before) ∷ [])
    ((13, sub_flow_rule s.node) ∷ (14, left_out_rule s.node) ∷ (15, room_rule most earlier) ∷ [])
    12 (loop_rule s.node s.looped)
    (no_fault s.place (broken_node_rule most earlier s.node s.before s.after s.looped) h)

sites_obey : (most : ℕ) (earlier : List (List ℕ)) (sites : List Site) → first_fault most earlier sites ≡ None → All Obeys sites
sites_obey most earlier [] h = All-nil Obeys
sites_obey most earlier (s ∷ rest) h =
    let parts = neither (site_fault most earlier s) (first_fault most (earlier ++ reference_of s.node ∷ []) rest) h in
    All-cons Obeys s rest (site_obeys most earlier s parts.0) (sites_obey most (earlier ++ reference_of s.node ∷ []) rest parts.1)

all_left : {T : Type 0} (P : T → Type 0) (xs ys : List T) → All P (xs ++ ys) → All P xs
all_left P [] ys h = All-nil P
all_left P (x ∷ xs) ys h = All-cons P x xs (All-head P x (xs ++ ys) h) (all_left P xs ys (All-tail P x (xs ++ ys) h))

all_right : {T : Type 0} (P : T → Type 0) (xs ys : List T) → All P (xs ++ ys) → All P ys
all_right P [] ys h = h
all_right P (x ∷ xs) ys h = all_right P xs ys (All-tail P x (xs ++ ys) h)

-- ---- what a node is to be

-- a DO_WHILE's body begins with the next index, and has no DO_WHILE in it; a node of a DO_WHILE's body is none
record FitsAt (looped : Bool) (index : ℕ) (kind : NodeKind) : Type 0 where
  whole : is_bad_loop kind ≡ false
  next : (k first : ℕ) → begins_with (head_of index kind) k first ≡ true → first ≡ k + 1
  free : looped ≡ true → is_loop kind ≡ false

abbrev Fits : Bool → Node → Type 0
Fits looped n = FitsAt looped n.index n.kind

abbrev AllFit : Bool → List Node → Type 0
AllFit looped nodes = All (Fits looped) (all_nodes nodes)

-- a node and those inside it
abbrev FitsDeep : Bool → ℕ → NodeKind → Type 0
FitsDeep looped index kind = FitsAt looped index kind × All (Fits looped) (inside_kind kind)

-- what stands in a DO_WHILE fits everywhere
fits_wider : (looped : Bool) (n : Node) → Fits true n → Fits looped n
fits_wider looped n h = record { whole = h.whole; next = h.next; free = λ e. h.free refl }

fits_other : (looped : Bool) (index : ℕ) (kind : NodeKind) → is_loop kind ≡ false → FitsAt looped index kind
fits_other looped index kind h = by_parts (no_head index kind h) where
  no_head : (index : ℕ) (kind : NodeKind) → is_loop kind ≡ false → (is_bad_loop kind ≡ false) × (head_of index kind ≡ [])
  no_head index Simple h = (refl, refl)
  no_head index (Switch choice) h = (refl, refl)
  no_head index (Fork' s branches) h = (refl, refl)
  no_head index (Join references) h = (refl, refl)
  no_head index (Loop' count s body) h = cc
  no_head index (SubFlow name version) h = (refl, refl)
  no_head index SetVariable h = (refl, refl)
  no_head index Wait h = (refl, refl)
  no_head index Human h = (refl, refl)
  no_head index Terminate h = (refl, refl)

  none_begins : (hs : List (ℕ × ℕ)) (k first : ℕ) → hs ≡ [] → begins_with hs k first ≡ true → first ≡ k + 1
  none_begins [] k first e is = cc
  none_begins (p ∷ hs) k first e is = cc

  by_parts : (is_bad_loop kind ≡ false) × (head_of index kind ≡ []) → FitsAt looped index kind
  by_parts parts = record { whole = parts.0; next = λ k first is. none_begins (head_of index kind) k first parts.1 is; free = λ e. h }

no_loops : (nodes : List Node) → All (Fits true) nodes → list_any is_loop_node nodes ≡ false
no_loops nodes h = list_any_none is_loop_node nodes (All-weaker (Fits true) (λ n. is_loop_node n ≡ false) (λ n fits. fits.free refl) nodes h)

next_begins : (index k first : ℕ) → begins_with ((index, index + 1) ∷ []) k first ≡ true → first ≡ k + 1
next_begins index k first is = grind (arith, nat_tests)

fits_loop : (looped : Bool) (index : ℕ) (count : Count) (nodes : List Node) → looped ≡ false → index_first nodes ≡ Some (index + 1) → AllFit true nodes → FitsDeep looped index (Loop count nodes)
fits_loop looped index count nodes out first fits =
    let begins : first_index (hidden-the_row-Node-1 nodes) ≡ Some (index + 1) = body_first nodes ∙ first in
    let plain : list_any is_loop_node (in_row (hidden-the_row-Node-1 nodes)) ≡ false = ap (list_any is_loop_node) (body_all nodes) ∙ no_loops (all_nodes nodes) fits in (
      record {
        whole = rw (begins, plain) refl;
        next = λ k f is. next_begins index k f (subst (λ o. begins_with (pair_with index o) k f ≡ true) begins is);
        free = λ e. (let no : true ≡ false = sym e ∙ out in cc);
      },
      subst (All (Fits looped)) (sym (body_all nodes)) (All-weaker (Fits true) (Fits looped) (fits_wider looped) (all_nodes nodes) fits),
    )

fits_leaf : (looped : Bool) (index : ℕ) (kind : NodeKind) → is_loop kind ≡ false → inside_kind kind ≡ [] → FitsDeep looped index kind
fits_leaf looped index kind h e = (fits_other looped index kind h, subst (All (Fits looped)) (sym e) (All-nil (Fits looped)))

fits_plain : (looped : Bool) (index : ℕ) (t : List ℕ) → FitsDeep looped index (plain_kind t)
fits_plain looped index t = by_tests (same_text t (codes "SET_VARIABLE")) (same_text t (codes "WAIT")) (same_text t (codes "HUMAN")) (same_text t (codes "TERMINATE")) where
  by_tests : (a b c d : Bool) → FitsDeep looped index (if a then SetVariable else if b then Wait else if c then Human else if d then Terminate else Simple)
  by_tests true b c d = fits_leaf looped index SetVariable refl refl
  by_tests false true c d = fits_leaf looped index Wait refl refl
  by_tests false false true d = fits_leaf looped index Human refl refl
  by_tests false false false true = fits_leaf looped index Terminate refl refl
  by_tests false false false false = fits_leaf looped index Simple refl refl

branches_fit : (looped : Bool) (lists : List (List Node)) → All (AllFit looped) lists → All (Fits looped) (all_of_branches (map branch_of lists))
branches_fit looped [] h = All-nil (Fits looped)
branches_fit looped (nodes ∷ lists) h =
    All-append (Fits looped) (all_nodes (out-Branch (branch_of nodes)).nodes) (all_of_branches (map branch_of lists))
    (subst (AllFit looped) (sym (ap (λ b. b.nodes) (out-roll-Branch (record { nodes = nodes })))) (All-head (AllFit looped) nodes lists h))
    (branches_fit looped lists (All-tail (AllFit looped) nodes lists h))

cases_fit : (looped : Bool) (es : List (Entry Doc)) (lists : List (List Node)) → All (AllFit looped) lists → All (Fits looped) (all_of_cases (cases_of es lists))
cases_fit looped [] lists h = All-nil (Fits looped)
cases_fit looped (e ∷ es) [] h = All-nil (Fits looped)
cases_fit looped (e ∷ es) (nodes ∷ lists) h =
    All-append (Fits looped) (all_nodes (out-Case (case_of e.key nodes)).nodes) (all_of_cases (cases_of es lists))
    (subst (AllFit looped) (sym (ap (λ c. c.nodes) (out-roll-Case (record { key = e.key; nodes = nodes })))) (All-head (AllFit looped) nodes lists h))
    (cases_fit looped es lists (All-tail (AllFit looped) nodes lists h))

last_fits : (looped : Bool) (lists : List (List Node)) → All (AllFit looped) lists → AllFit looped (last_of lists)
last_fits looped lists h = at lists (length lists - 1) h where
  at : (lists : List (List Node)) (k : ℕ) → All (AllFit looped) lists → AllFit looped (unwrap_or (slice_get lists k) [])
  at [] k h = All-nil (Fits looped)
  at (nodes ∷ lists) zero h = All-head (AllFit looped) nodes lists h
  at (nodes ∷ lists) (suc k) h = at lists k (All-tail (AllFit looped) nodes lists h)

fits_fork : (looped : Bool) (index : ℕ) (lists : List (List Node)) → All (AllFit looped) lists → FitsDeep looped index (Fork (map branch_of lists))
fits_fork looped index lists h =
    (fits_other looped index (Fork (map branch_of lists)) refl, subst (All (Fits looped)) (sym (inside_fork (map branch_of lists))) (branches_fit looped lists h))

fits_switch : (looped : Bool) (index : ℕ) (node : Doc) (lists : List (List Node)) → All (AllFit looped) lists → FitsDeep looped index (Switch (choice_with node lists))
fits_switch looped index node lists h =
    let choice = choice_with node lists in
    let one = sym (ap (λ c. c.cases) (out-roll-Cases _)) in
    let two = sym (ap (λ c. c.otherwise) (out-roll-Cases _)) in (
      fits_other looped index (Switch choice) refl,
      subst (All (Fits looped)) (sym (inside_switch choice))
          (All-append (Fits looped) (all_of_cases (out-Cases choice).cases) (all_nodes (out-Cases choice).otherwise)
          (subst (λ cs. All (Fits looped) (all_of_cases cs)) one (cases_fit looped (cases node) (all_but_last lists) (All-take (AllFit looped) (length lists - 1) lists h)))
          (subst (AllFit looped) two (last_fits looped lists h))),
    )

-- the kind of a node by the later tests of its type
abbrev last_kind : Doc → NodeKind
last_kind d = if is_type (codes "SUB_WORKFLOW") d then SubFlow (sub_name d) (sub_version d) else plain_kind (type_of d)

abbrev loop_kind : Doc → List (List Node) → NodeKind
loop_kind d lists = if is_type (codes "DO_WHILE") d then Loop (count_of d) (last_of lists) else last_kind d

abbrev later_kind : Doc → List (List Node) → NodeKind
later_kind d lists = if is_type (codes "JOIN") d then Join (joined d) else loop_kind d lists

-- ---- all nodes, where those inside a node fit

abbrev HasFlag : Bool → Listed → Type 0
HasFlag looped l = l.looped ≡ looped

cases_flag : (looped : Bool) (place : List ℕ) (es : List (Entry Doc)) → All (HasFlag looped) (case_lists looped place es)
cases_flag looped place [] = All-nil (HasFlag looped)
cases_flag looped place (e ∷ es) = All-cons (HasFlag looped) (case_list looped place e) (case_lists looped place es) refl (cases_flag looped place es)

switch_flag : (looped : Bool) (place : List ℕ) (node : Doc) → All (HasFlag looped) (switch_lists looped place node)
switch_flag looped place node =
    All-append (HasFlag looped) (case_lists looped (field_place place (codes "decisionCases")) (cases node)) (default_list looped place node ∷ [])
    (cases_flag looped (field_place place (codes "decisionCases")) (cases node))
    (All-cons (HasFlag looped) (default_list looped place node) [] refl (All-nil (HasFlag looped)))

branches_flag : (looped : Bool) (place : List ℕ) (n : ℕ) (ds : List Doc) → All (HasFlag looped) (branch_lists looped place n ds)
branches_flag looped place n [] = All-nil (HasFlag looped)
branches_flag looped place n (d ∷ ds) = All-cons (HasFlag looped) (branch_list looped place n d) (branch_lists looped place (n + 1) ds) refl (branches_flag looped place (n + 1) ds)

module _ (inside : Bool → List ℕ → Doc → List Site) (kind : ℕ → Bool → List ℕ → Doc → NodeKind) where
  -- a node that obeys the rule, and has none inside it that doesn't, fits
  abbrev Reads : Type 0
  Reads = (index : ℕ) (looped : Bool) (place : List ℕ) (d : Doc) → loop_rule d looped ≡ None → All Obeys (inside looped place d) → FitsDeep looped index (kind (index + 1) looped place d)

  nodes_fit : Reads → (l : Listed) (n index : ℕ) (ds : List Doc) → All Obeys (sites_from inside l n ds) → AllFit l.looped (nodes_from inside kind l n index ds)
  nodes_fit reads l n index [] h = All-nil (Fits l.looped)
  nodes_fit reads l n index (d ∷ ds) h =
      let within = inside l.looped (item_place l.place n) d in
      let later = sites_from inside l (n + 1) ds in
      let behind = index + 1 + length within in
      let tail = All-tail Obeys (site l n d) (within ++ later) h in
      let here = reads index l.looped (item_place l.place n) d (All-head Obeys (site l n d) (within ++ later) h) (all_left Obeys within later tail) in
      let x = node_at inside kind l n index d in
      let xs = nodes_from inside kind l (n + 1) behind ds in
      All-cons (Fits l.looped) x (inside_kind x.kind ++ all_nodes xs) here.0
      (All-append (Fits l.looped) (inside_kind x.kind) (all_nodes xs) here.1 (nodes_fit reads l (n + 1) behind ds (all_right Obeys within later tail)))

  lists_fit : Reads → (looped : Bool) (index : ℕ) (ls : List Listed) → All (HasFlag looped) ls → All Obeys (sites_of_lists inside ls) → All (AllFit looped) (nodes_of_lists inside kind index ls)
  lists_fit reads looped index [] flag h = All-nil (AllFit looped)
  lists_fit reads looped index (l ∷ ls) flag h =
      let here = nodes_fit reads l 0 index l.items (all_left Obeys (sites_of inside l) (sites_of_lists inside ls) h) in
      All-cons (AllFit looped) (nodes_of inside kind index l) (nodes_of_lists inside kind (index + length (sites_of inside l)) ls)
      (subst (λ b. AllFit b (nodes_of inside kind index l)) (All-head (HasFlag looped) l ls flag) here)
      (lists_fit reads looped (index + length (sites_of inside l)) ls (All-tail (HasFlag looped) l ls flag) (all_right Obeys (sites_of inside l) (sites_of_lists inside ls) h))

  first_there : (l : Listed) (n index : ℕ) (ds : List Doc) → not (length ds == 0) ≡ true → index_first (nodes_from inside kind l n index ds) ≡ Some index
  first_there l n index [] h = cc
  first_there l n index (d ∷ ds) h = refl

  loop_fits : Reads → (index : ℕ) (looped : Bool) (place : List ℕ) (d : Doc) → is_type (codes "DO_WHILE") d ≡ true → loop_rule d looped ≡ None → All Obeys (sites_of_lists inside (body_list place d ∷ []))
      → FitsDeep looped index (Loop (count_of d) (last_of (nodes_of_lists inside kind (index + 1) (body_list place d ∷ []))))
  loop_fits reads index looped place d e rule h =
      let asked : option_or (option_or (condition_rule d) (body_rule d)) (unless (not looped) []) ≡ None = rw e at rule in
      let parts = neither (option_or (condition_rule d) (body_rule d)) (unless (not looped) []) asked in
      let some = kept (not (length (body d) == 0)) (codes "loopOver") (neither (condition_rule d) (body_rule d) parts.0).1 in
      fits_loop looped index (count_of d) (nodes_of inside kind (index + 1) (body_list place d)) (not_true looped (kept (not looped) [] parts.1))
      (first_there (body_list place d) 0 (index + 1) (body d) some)
      (nodes_fit reads (body_list place d) 0 (index + 1) (body d) (all_left Obeys (sites_of inside (body_list place d)) [] h))
    where
      not_true : (b : Bool) → not b ≡ true → b ≡ false
      not_true false h = refl
      not_true true h = cc

  type_fits : Reads → (index : ℕ) (looped : Bool) (place : List ℕ) (d : Doc) → loop_rule d looped ≡ None → All Obeys (sites_of_lists inside (lists_inside looped place d))
      → FitsDeep looped index (kind_with d (nodes_of_lists inside kind (index + 1) (lists_inside looped place d)))
  type_fits reads index looped place d rule h = by_switch (is_type (codes "SWITCH") d) refl where
    lists : List (List Node)
    lists = nodes_of_lists inside kind (index + 1) (lists_inside looped place d)

    all_fit : (ls : List Listed) → ls ≡ lists_inside looped place d → All (HasFlag looped) ls → All (AllFit looped) lists
    all_fit ls e flag = lists_fit reads looped (index + 1) (lists_inside looped place d) (subst (All (HasFlag looped)) e flag) h

    by_sub : (b : Bool) → FitsDeep looped index (if b then SubFlow (sub_name d) (sub_version d) else plain_kind (type_of d))
    by_sub true = fits_leaf looped index (SubFlow (sub_name d) (sub_version d)) refl refl
    by_sub false = fits_plain looped index (type_of d)

    by_loop : (b : Bool) → is_type (codes "DO_WHILE") d ≡ b → is_type (codes "SWITCH") d ≡ false → is_type (codes "FORK_JOIN") d ≡ false
        → FitsDeep looped index (if b then Loop (count_of d) (last_of lists) else last_kind d)
    by_loop true e no_switch no_fork =
        let one : lists_inside looped place d ≡ body_list place d ∷ [] = rw (no_switch, no_fork, e) refl in
        subst (λ ls. FitsDeep looped index (Loop (count_of d) (last_of (nodes_of_lists inside kind (index + 1) ls)))) (sym one)
        (loop_fits reads index looped place d e rule (subst (λ ls. All Obeys (sites_of_lists inside ls)) one h))
    by_loop false e no_switch no_fork = by_sub (is_type (codes "SUB_WORKFLOW") d)

    by_join : (b : Bool) → is_type (codes "SWITCH") d ≡ false → is_type (codes "FORK_JOIN") d ≡ false
        → FitsDeep looped index (if b then Join (joined d) else loop_kind d lists)
    by_join true no_switch no_fork = fits_leaf looped index (Join (joined d)) refl refl
    by_join false no_switch no_fork = by_loop (is_type (codes "DO_WHILE") d) refl no_switch no_fork

    by_fork : (b : Bool) → is_type (codes "FORK_JOIN") d ≡ b → is_type (codes "SWITCH") d ≡ false → FitsDeep looped index (kind_with d lists)
    by_fork true e no_switch =
        let forks : kind_with d lists ≡ Fork (map branch_of lists) = rw (no_switch, e) refl in
        subst (FitsDeep looped index) (sym forks)
        (fits_fork looped index lists (all_fit (fork_lists looped place d) (rw (no_switch, e) refl) (branches_flag looped (field_place place (codes "forkTasks")) 0 (branches d))))
    by_fork false e no_switch =
        let neither_of_both : kind_with d lists ≡ later_kind d lists = rw (no_switch, e) refl in
        subst (FitsDeep looped index) (sym neither_of_both) (by_join (is_type (codes "JOIN") d) no_switch e)

    by_switch : (b : Bool) → is_type (codes "SWITCH") d ≡ b → FitsDeep looped index (kind_with d lists)
    by_switch true e =
        let chooses : kind_with d lists ≡ Switch (choice_with d lists) = rw e refl in
        subst (FitsDeep looped index) (sym chooses)
        (fits_switch looped index d lists (all_fit (switch_lists looped place d) (rw e refl) (switch_flag looped place d)))
    by_switch false e = by_fork (is_type (codes "FORK_JOIN") d) refl e

-- ---- all nodes

reads_fit : (levels : ℕ) → Reads (sites_inside levels) (kind_at levels)
reads_fit zero index looped place d rule h = fits_leaf looped index Simple refl refl
reads_fit (suc levels) index looped place d rule h = type_fits (sites_inside levels) (kind_at levels) (reads_fit levels) index looped place d rule h

next_index : (nodes : List Node) → All (Fits false) nodes → (k first : ℕ) → begins_with (heads nodes) k first ≡ true → first ≡ k + 1
next_index [] h k first is = cc
next_index (n ∷ rest) h k first is =
    by_first (begins_with (head_of n.index n.kind) k first) refl (sym (list_any-append (is_pair k first) (head_of n.index n.kind) (heads rest)) ∙ is)
    (next_index rest (All-tail (Fits false) n rest h) k first)
  where
    by_first : (b : Bool) → begins_with (head_of n.index n.kind) k first ≡ b → (b || begins_with (heads rest) k first) ≡ true → (begins_with (heads rest) k first ≡ true → first ≡ k + 1) → first ≡ k + 1
    by_first true e is on = (All-head (Fits false) n rest h).next k first e
    by_first false e is on = on is

loops_fit : (nodes : List Node) → AllFit false nodes → LoopsFit nodes
loops_fit nodes h = record {
  whole = list_any_none (λ (n : Node). is_bad_loop n.kind) (all_nodes nodes) (All-weaker (Fits false) (λ n. is_bad_loop n.kind ≡ false) (λ n fits. fits.whole) (all_nodes nodes) h);
  apart = λ k l first one two. (let a = next_index (all_nodes nodes) h k first one in let b = next_index (all_nodes nodes) h l first two in omega (arith, a, b));
}

pub valid_fits : (most : ℕ) (d : Doc) → flow_rule most d ≡ None → LoopsFit (flow_definition most d).nodes
unfolding flow_rule
valid_fits most d h =
    let parts = neither (fault_at [] (broken_flow_rule d)) (first_fault most [] (all_sites most d)) h in
    loops_fit (flow_definition most d).nodes
    (nodes_fit (sites_inside most) (kind_at most) (reads_fit most) (top_list d) 0 0 (top_list d).items (sites_obey most [] (all_sites most d) parts.1))
