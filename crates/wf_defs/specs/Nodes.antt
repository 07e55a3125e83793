-- All nodes of a workflow definition as they are written, with their places: each node before those inside it, and
-- the lists inside a node in their order.
use Rattle.std.specs.Prelude.{ℕ, zero, suc, ◌+◌, ◌-◌, ◌==◌, Bool, true, false, if◌then◌else◌, List, [], ◌∷◌, ◌++◌, map, codes, slice_get, Option, None, option_and_then, unwrap_or}
use Rattle.std.specs.Fmt.{decimal}
use Rattle.std.specs.Option.{option_map_or}
use Rattle.wf_doc.specs.declared.doc.Doc.{Doc}
use Rattle.wf_doc.specs.declared.fields.Entry.{Entry}
use Rattle.wf_doc.specs.Doc.{as_text, as_table}
use Rattle.wf_machine.specs.Text.{same_text}
use Rattle.wf_fields.specs.Fields.{given, text_in, items_of, items_in}

-- ---- what a node says of itself

-- the type: a node that names none is SIMPLE, and one whose type is no text has the empty type
abbrev pub type_of : Doc → List ℕ
type_of node = option_map_or (λ v. unwrap_or (as_text v) []) (given (codes "type") node) (codes "SIMPLE")

abbrev pub is_type : List ℕ → Doc → Bool
is_type name node = same_text (type_of node) name

abbrev pub reference_of : Doc → List ℕ
reference_of node = text_in (codes "taskReferenceName") node

-- the entries of the table, none where there is no table
abbrev pub entries_of : Doc → List (Entry Doc)
entries_of d = unwrap_or (as_table d) []

abbrev pub entries_in : List ℕ → Doc → List (Entry Doc)
entries_in key d = unwrap_or (option_and_then as_table (given key d)) []

abbrev pub cases : Doc → List (Entry Doc)
cases node = entries_in (codes "decisionCases") node

abbrev pub branches : Doc → List Doc
branches node = items_in (codes "forkTasks") node

abbrev pub body : Doc → List Doc
body node = items_in (codes "loopOver") node

-- ---- places

abbrev pub field_place : List ℕ → List ℕ → List ℕ
field_place place key = place ++ 46 ∷ key

-- the place of an item, counted from 0
abbrev pub item_place : List ℕ → ℕ → List ℕ
item_place place n = place ++ 91 ∷ (decimal n ++ 93 ∷ [])

-- ---- lists of nodes

-- a list of nodes, its place, and whether it stands inside a DO_WHILE
pub record Listed : Type 0 where
  pub items : List Doc
  pub place : List ℕ
  pub looped : Bool

abbrev pub listed : Bool → List ℕ → List Doc → Listed
listed looped place items = record { items = items; place = place; looped = looped }

-- a node, its place, its neighbours in its list, and whether it stands inside a DO_WHILE
pub record Site : Type 0 where
  pub node : Doc
  pub place : List ℕ
  pub before : Option Doc
  pub after : Option Doc
  pub looped : Bool

-- the item before the n-th
abbrev pub previous : List Doc → ℕ → Option Doc
previous items n = if n == 0 then None else slice_get items (n - 1)

-- the node that is the n-th item
abbrev pub site : Listed → ℕ → Doc → Site
site l n node =
    record {
      node = node;
      place = item_place l.place n;
      before = previous l.items n;
      after = slice_get l.items (n + 1);
      looped = l.looped;
    }

abbrev pub case_list : Bool → List ℕ → Entry Doc → Listed
case_list looped place e = listed looped (field_place place e.key) (items_of e.value)

abbrev pub case_lists : Bool → List ℕ → List (Entry Doc) → List Listed
case_lists looped place es = map (case_list looped place) es

abbrev pub default_list : Bool → List ℕ → Doc → Listed
default_list looped place node = listed looped (field_place place (codes "defaultCase")) (items_in (codes "defaultCase") node)

-- the cases by their keys, and then the default
abbrev pub switch_lists : Bool → List ℕ → Doc → List Listed
switch_lists looped place node =
    case_lists looped (field_place place (codes "decisionCases")) (cases node) ++ default_list looped place node ∷ []

abbrev pub branch_list : Bool → List ℕ → ℕ → Doc → Listed
branch_list looped place n d = listed looped (item_place place n) (items_of d)

-- the branches from the n-th on
abbrev pub branch_lists : Bool → List ℕ → ℕ → List Doc → List Listed
branch_lists looped place n [] = []
branch_lists looped place n (d ∷ ds) = branch_list looped place n d ∷ branch_lists looped place (n + 1) ds

abbrev pub fork_lists : Bool → List ℕ → Doc → List Listed
fork_lists looped place node = branch_lists looped (field_place place (codes "forkTasks")) 0 (branches node)

abbrev pub body_list : List ℕ → Doc → Listed
body_list place node = listed true (field_place place (codes "loopOver")) (body node)

-- the lists inside a node, in their order
abbrev pub lists_inside : Bool → List ℕ → Doc → List Listed
lists_inside looped place node =
    if is_type (codes "SWITCH") node then switch_lists looped place node
    else if is_type (codes "FORK_JOIN") node then fork_lists looped place node
    else if is_type (codes "DO_WHILE") node then body_list place node ∷ []
    else []

-- ---- all nodes

-- the node that is the n-th item, and those inside it, which `inside` gives
abbrev pub sites_at : (Bool → List ℕ → Doc → List Site) → Listed → ℕ → Doc → List Site
sites_at inside l n d = site l n d ∷ inside l.looped (item_place l.place n) d

-- the nodes of a list from the n-th on, where `inside` gives those inside a node
abbrev pub sites_from : (Bool → List ℕ → Doc → List Site) → Listed → ℕ → List Doc → List Site
sites_from inside l n [] = []
sites_from inside l n (d ∷ ds) = sites_at inside l n d ++ sites_from inside l (n + 1) ds

abbrev pub sites_of : (Bool → List ℕ → Doc → List Site) → Listed → List Site
sites_of inside l = sites_from inside l 0 l.items

abbrev pub sites_of_lists : (Bool → List ℕ → Doc → List Site) → List Listed → List Site
sites_of_lists inside [] = []
sites_of_lists inside (l ∷ ls) = sites_of inside l ++ sites_of_lists inside ls

-- the nodes inside a node, so many levels down
abbrev pub sites_inside : ℕ → Bool → List ℕ → Doc → List Site
sites_inside zero looped place node = []
sites_inside (suc levels) looped place node = sites_of_lists (sites_inside levels) (lists_inside looped place node)

abbrev pub top_list : Doc → Listed
top_list d = listed false (codes "tasks") (items_in (codes "tasks") d)

-- The nodes of a definition. A node lies inside as many others as it lies levels down, and these stand before it: so
-- at the level `most` none is missed of the first `most` nodes, nor the one that follows them.
abbrev pub all_sites : ℕ → Doc → List Site
all_sites most d = sites_of (sites_inside most) (top_list d)
