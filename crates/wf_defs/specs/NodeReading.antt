-- The nodes that a document of nodes is which breaks no rule.
use Rattle.std.specs.Prelude.{ℕ, zero, suc, ◌+◌, ◌-◌, Bool, false, if◌then◌else◌, List, [], ◌∷◌, length, take, map, slice_get, codes, Option, option_and_then, unwrap_or}
use Rattle.std.specs.Option.{option_map_or}
use Rattle.wf_doc.specs.declared.doc.Doc.{Doc}
use Rattle.wf_doc.specs.declared.fields.Entry.{Entry}
use Rattle.wf_doc.specs.Fields.{keys}
use Rattle.wf_machine.specs.declared.definition.Node.{Node}
use Rattle.wf_machine.specs.declared.definition.NodeKind.{NodeKind}
use Rattle.wf_machine.specs.declared.definition.NodeKind.TheVariants.{Simple, Switch, Fork, Join, Loop, SubFlow, SetVariable, Wait, Human, Terminate}
use Rattle.wf_machine.specs.declared.definition.Case.{Case, roll-Case}
use Rattle.wf_machine.specs.declared.definition.Cases.{Cases, roll-Cases}
use Rattle.wf_machine.specs.declared.definition.Branch.{Branch, roll-Branch}
use Rattle.wf_machine.specs.declared.definition.Count.{Count}
use Rattle.wf_machine.specs.declared.definition.Count.TheVariants.{Number, Param}
use Rattle.wf_machine.specs.Text.{same_text}
use Rattle.wf_defs.specs.Condition.{condition_number, condition_key}
use Rattle.wf_fields.specs.Fields.{as_count, text_in, number_or, truth_or, table_in}
use Rattle.wf_defs.specs.Nodes.{Site, Listed, type_of, is_type, reference_of, entries_in, cases, item_place, lists_inside, sites_of, sites_inside}
use Rattle.wf_defs.specs.NodeRules.{nested, sub_name, joined}

-- ---- values of the machine

abbrev pub case_of : List ℕ → List Node → Case
case_of key nodes = roll-Case (record { key = key; nodes = nodes })

abbrev pub branch_of : List Node → Branch
branch_of nodes = roll-Branch (record { nodes = nodes })

abbrev pub choice_of : List ℕ → List Case → List Node → Cases
choice_of param cases otherwise = roll-Cases (record { param = param; cases = cases; otherwise = otherwise })

-- how often a DO_WHILE runs its body
abbrev pub count_of : Doc → Count
count_of node =
    option_map_or Number (condition_number (reference_of node) (text_in (codes "loopCondition") node))
    (Param (unwrap_or (condition_key (reference_of node) (keys (entries_in (codes "inputParameters") node)) (text_in (codes "loopCondition") node)) []))

abbrev pub sub_version : Doc → Option ℕ
sub_version node = option_and_then as_count (nested (codes "subWorkflowParam") (codes "version") node)

-- ---- nodes

-- a node of this index and kind
abbrev pub node_of : ℕ → NodeKind → Doc → Node
node_of index kind d =
    record {
      index = index;
      name = text_in (codes "name") d;
      reference = reference_of d;
      optional = truth_or false (codes "optional") d;
      start_delay = number_or 0 (codes "startDelay") d;
      input = table_in (codes "inputParameters") d;
      kind = kind;
    }

-- a kind that says no more than the type
abbrev pub plain_kind : List ℕ → NodeKind
plain_kind t =
    if same_text t (codes "SET_VARIABLE") then SetVariable
    else if same_text t (codes "WAIT") then Wait
    else if same_text t (codes "HUMAN") then Human
    else if same_text t (codes "TERMINATE") then Terminate
    else Simple

-- Below, `inside` gives the nodes inside a node, and `kind` its kind, where the index is that of the first node inside
-- it. A node has the index that follows those of all nodes before it.
module _ (inside : Bool → List ℕ → Doc → List Site) (kind : ℕ → Bool → List ℕ → Doc → NodeKind) where
  -- the node that is the n-th of a list
  abbrev pub node_at : Listed → ℕ → ℕ → Doc → Node
  node_at l n index d = node_of index (kind (index + 1) l.looped (item_place l.place n) d) d

  -- the nodes of a list from the n-th on
  abbrev pub nodes_from : Listed → ℕ → ℕ → List Doc → List Node
  nodes_from l n index [] = []
  nodes_from l n index (d ∷ ds) =
      node_at l n index d
      ∷ nodes_from l (n + 1) (index + 1 + length (inside l.looped (item_place l.place n) d)) ds

  abbrev pub nodes_of : ℕ → Listed → List Node
  nodes_of index l = nodes_from l 0 index l.items

  -- the nodes of each list
  abbrev pub nodes_of_lists : ℕ → List Listed → List (List Node)
  nodes_of_lists index [] = []
  nodes_of_lists index (l ∷ ls) = nodes_of index l ∷ nodes_of_lists (index + length (sites_of inside l)) ls

-- the cases by their keys
abbrev pub cases_of : List (Entry Doc) → List (List Node) → List Case
cases_of [] lists = []
cases_of (e ∷ es) [] = []
cases_of (e ∷ es) (nodes ∷ lists) = case_of e.key nodes ∷ cases_of es lists

abbrev pub all_but_last : List (List Node) → List (List Node)
all_but_last lists = take (length lists - 1) lists

abbrev pub last_of : List (List Node) → List Node
last_of lists = unwrap_or (slice_get lists (length lists - 1)) []

-- what a SWITCH chooses from
abbrev pub choice_with : Doc → List (List Node) → Cases
choice_with node lists =
    choice_of (text_in (codes "expression") node) (cases_of (cases node) (all_but_last lists)) (last_of lists)

-- the kind of a node, from the nodes of the lists inside it
abbrev pub kind_with : Doc → List (List Node) → NodeKind
kind_with node lists =
    if is_type (codes "SWITCH") node then Switch (choice_with node lists)
    else if is_type (codes "FORK_JOIN") node then Fork (map branch_of lists)
    else if is_type (codes "JOIN") node then Join (joined node)
    else if is_type (codes "DO_WHILE") node then Loop (count_of node) (last_of lists)
    else if is_type (codes "SUB_WORKFLOW") node then SubFlow (sub_name node) (sub_version node)
    else plain_kind (type_of node)

-- the kind of a node, so many levels down; no node of a definition lies deeper
abbrev pub kind_at : ℕ → ℕ → Bool → List ℕ → Doc → NodeKind
kind_at zero index looped place node = Simple
kind_at (suc levels) index looped place node =
    kind_with node (nodes_of_lists (sites_inside levels) (kind_at levels) index (lists_inside looped place node))
