-- Reading lists of nodes, one node after another.
use Rattle.std.proofs.Common.{◌≡◌, ◌∙◌, ap, sym, refl, ℕ, zero, suc, ◌+◌, ◌-◌, ◌<◌, Bool, List, [], ◌∷◌, ◌++◌, length, map, drop, get_or, Option, None, Some, Result, Ok, Err, IfErr, subst, arith, add-one}
use Rattle.std.specs.Result.{IsErrAnd}
use Rattle.std.specs.Option.{option_or}
use Rattle.std.proofs.lemmas.List.{append-nil, append_assoc, length-append, map-append}
use Rattle.std.proofs.Math.Seq.{drop-cons}
use Rattle.wf_doc.specs.declared.doc.Doc.{Doc}
use Rattle.wf_machine.specs.declared.definition.Node.{Node}
use Rattle.wf_machine.specs.declared.definition.NodeKind.{NodeKind}
use Rattle.wf_defs.specs.declared.faults.DefFault.{DefFault}
use Rattle.wf_defs.specs.declared.lists.NodeList.{NodeList}
use Rattle.wf_defs.specs.Lists.{listed_as}
use Rattle.wf_defs.specs.Nodes.{Site, Listed, reference_of, item_place, lists_inside, sites_at, sites_from, sites_of, sites_of_lists, sites_inside}
use Rattle.wf_defs.specs.FlowRules.{site_fault, first_fault, references}
use Rattle.wf_defs.specs.NodeReading.{node_at, nodes_from, nodes_of, nodes_of_lists, kind_with, kind_at}

or_assoc : (a b c : Option DefFault) → option_or (option_or a b) c ≡ option_or a (option_or b c)
or_assoc None b c = refl
or_assoc (Some f) b c = refl

-- the first fault of some nodes, or else of those behind them
pub first_fault-append : (most : ℕ) (earlier : List (List ℕ)) (xs ys : List Site) → first_fault most earlier (xs ++ ys) ≡ option_or (first_fault most earlier xs) (first_fault most (earlier ++ references xs) ys)
first_fault-append most earlier [] ys = ap (λ e. first_fault most e ys) (sym (append-nil earlier))
first_fault-append most earlier (s ∷ xs) ys =
    ap (option_or (site_fault most earlier s))
    (first_fault-append most (earlier ++ reference_of s.node ∷ []) xs ys
    ∙ ap (λ e. option_or (first_fault most (earlier ++ reference_of s.node ∷ []) xs) (first_fault most e ys)) (append_assoc earlier (reference_of s.node ∷ []) (references xs)))
    ∙ sym (or_assoc (site_fault most earlier s) (first_fault most (earlier ++ reference_of s.node ∷ []) xs) (first_fault most (earlier ++ references (s ∷ xs)) ys))

-- behind nodes without a fault, the fault of the others decides
pub fault_later : (most : ℕ) (earlier later : List (List ℕ)) (xs ys : List Site) → first_fault most earlier xs ≡ None → later ≡ earlier ++ references xs → first_fault most earlier (xs ++ ys) ≡ first_fault most later ys
fault_later most earlier later xs ys valid noted =
    first_fault-append most earlier xs ys ∙ ap (λ f. option_or f (first_fault most (earlier ++ references xs) ys)) valid ∙ ap (λ e. first_fault most e ys) (sym noted)

-- a fault of the first nodes is that of all
pub fault_first : (most : ℕ) (earlier : List (List ℕ)) (xs ys : List Site) (f : DefFault) → first_fault most earlier xs ≡ Some f → first_fault most earlier (xs ++ ys) ≡ Some f
fault_first most earlier xs ys f broken =
    first_fault-append most earlier xs ys ∙ ap (λ g. option_or g (first_fault most (earlier ++ references xs) ys)) broken

-- the references of some nodes and of those behind them
pub references-later : (earlier later : List (List ℕ)) (xs ys : List Site) → later ≡ earlier ++ references xs → earlier ++ references (xs ++ ys) ≡ later ++ references ys
references-later earlier later xs ys noted =
    ap (λ r. earlier ++ r) (map-append (λ (s : Site). reference_of s.node) xs ys)
    ∙ sym (append_assoc earlier (references xs) (references ys))
    ∙ ap (λ e. e ++ references ys) (sym noted)

length-map : (xs : List Site) → length (references xs) ≡ length xs
length-map [] = refl
length-map (x ∷ xs) = ap suc (length-map xs)

pub noted_length : (earlier later : List (List ℕ)) (xs : List Site) → later ≡ earlier ++ references xs → length later ≡ length earlier + length xs
noted_length earlier later xs noted = ap length noted ∙ length-append earlier (references xs) ∙ ap (λ n. length earlier + n) (length-map xs)

-- ---- faults that are handed on

pub on_err : {T : Type 0} (r : Result T DefFault) (fault : DefFault) (P : DefFault → Type 0) → IsErrAnd r (λ e. e ≡ fault) → P fault → IfErr r P
on_err (Ok v) fault P is here = tt
on_err (Err e) fault P is here = subst P (sym is) here

-- ---- levels

pub sites_inside-step : (levels : ℕ) (looped : Bool) (place : List ℕ) (node : Doc) → 0 < levels → sites_inside levels looped place node ≡ sites_of_lists (sites_inside (levels - 1)) (lists_inside looped place node)
sites_inside-step zero looped place node some = absurd (omega (arith, some))
sites_inside-step (suc levels) looped place node some =
    let e : suc levels - 1 ≡ levels = omega arith in
    ap (λ n. sites_of_lists (sites_inside n) (lists_inside looped place node)) (sym e)

pub kind_at-step : (levels index : ℕ) (looped : Bool) (place : List ℕ) (node : Doc) → 0 < levels
    → kind_at levels index looped place node ≡ kind_with node (nodes_of_lists (sites_inside (levels - 1)) (kind_at (levels - 1)) index (lists_inside looped place node))
kind_at-step zero index looped place node some = absurd (omega (arith, some))
kind_at-step (suc levels) index looped place node some =
    let e : suc levels - 1 ≡ levels = omega arith in
    ap (λ n. kind_with node (nodes_of_lists (sites_inside n) (kind_at n) index (lists_inside looped place node))) (sym e)

-- ---- one more node of a list

split_at : {A : Type 0} (xs : List A) (i : ℕ) (x : A) → i < length xs → x ≡ get_or xs i x → drop i xs ≡ x ∷ drop (i + 1) xs
split_at xs i x within here = drop-cons xs i x within ∙ ap (λ y. y ∷ drop (suc i) xs) (sym here) ∙ ap (λ n. x ∷ drop n xs) (sym (add-one i))

module _ (most : ℕ) (inside : Bool → List ℕ → Doc → List Site) (l : Listed) (items : List Doc) (i : ℕ) (d : Doc) (earlier : List (List ℕ)) where
  -- a fault of the node, or of those inside it
  pub fault_here : (f : DefFault) → first_fault most earlier (sites_at inside l i d) ≡ Some f → i < length items → d ≡ get_or items i d → first_fault most earlier (sites_from inside l i (drop i items)) ≡ Some f
  fault_here f broken within here =
      ap (λ ds. first_fault most earlier (sites_from inside l i ds)) (split_at items i d within here)
      ∙ fault_first most earlier (sites_at inside l i d) (sites_from inside l (i + 1) (drop (i + 1) items)) f broken

  pub faults_step : (later : List (List ℕ)) → first_fault most earlier (sites_at inside l i d) ≡ None → later ≡ earlier ++ references (sites_at inside l i d) → i < length items → d ≡ get_or items i d
      → first_fault most earlier (sites_from inside l i (drop i items)) ≡ first_fault most later (sites_from inside l (i + 1) (drop (i + 1) items))
  faults_step later valid noted within here =
      ap (λ ds. first_fault most earlier (sites_from inside l i ds)) (split_at items i d within here)
      ∙ fault_later most earlier later (sites_at inside l i d) (sites_from inside l (i + 1) (drop (i + 1) items)) valid noted

  pub noted_step : (later : List (List ℕ)) → later ≡ earlier ++ references (sites_at inside l i d) → i < length items → d ≡ get_or items i d
      → earlier ++ references (sites_from inside l i (drop i items)) ≡ later ++ references (sites_from inside l (i + 1) (drop (i + 1) items))
  noted_step later noted within here =
      ap (λ ds. earlier ++ references (sites_from inside l i ds)) (split_at items i d within here)
      ∙ references-later earlier later (sites_at inside l i d) (sites_from inside l (i + 1) (drop (i + 1) items)) noted

  pub nodes_step : (kind : ℕ → Bool → List ℕ → Doc → NodeKind) (later : List (List ℕ)) (made pushed : List Node) (node : Node) → later ≡ earlier ++ references (sites_at inside l i d) → node ≡ node_at inside kind l i (length earlier) d
      → pushed ≡ made ++ node ∷ [] → i < length items → d ≡ get_or items i d
      → made ++ nodes_from inside kind l i (length earlier) (drop i items) ≡ pushed ++ nodes_from inside kind l (i + 1) (length later) (drop (i + 1) items)
  nodes_step kind later made pushed node noted same more within here =
      let counted : length earlier + 1 + length (inside l.looped (item_place l.place i) d) ≡ length later = omega (arith, noted_length earlier later (sites_at inside l i d) noted) in
      ap (λ ds. made ++ nodes_from inside kind l i (length earlier) ds) (split_at items i d within here)
      ∙ ap (λ n. made ++ (node_at inside kind l i (length earlier) d ∷ nodes_from inside kind l (i + 1) n (drop (i + 1) items))) counted
      ∙ ap (λ x. made ++ (x ∷ nodes_from inside kind l (i + 1) (length later) (drop (i + 1) items))) (sym same)
      ∙ sym (append_assoc made (node ∷ []) (nodes_from inside kind l (i + 1) (length later) (drop (i + 1) items)))
      ∙ ap (λ m. m ++ nodes_from inside kind l (i + 1) (length later) (drop (i + 1) items)) (sym more)

-- ---- one more list

split_lists : (lists : List NodeList) (i : ℕ) (x : NodeList) → i < length lists → x ≡ get_or lists i x → map listed_as (drop i lists) ≡ listed_as x ∷ map listed_as (drop (i + 1) lists)
split_lists lists i x within here = ap (map listed_as) (split_at lists i x within here)

module _ (most : ℕ) (inside : Bool → List ℕ → Doc → List Site) (lists : List NodeList) (i : ℕ) (x : NodeList) (earlier : List (List ℕ)) where
  -- a fault of a node of the list
  pub list_fault_here : (f : DefFault) → first_fault most earlier (sites_of inside (listed_as x)) ≡ Some f → i < length lists → x ≡ get_or lists i x → first_fault most earlier (sites_of_lists inside (map listed_as (drop i lists))) ≡ Some f
  list_fault_here f broken within here =
      ap (λ ls. first_fault most earlier (sites_of_lists inside ls)) (split_lists lists i x within here)
      ∙ fault_first most earlier (sites_of inside (listed_as x)) (sites_of_lists inside (map listed_as (drop (i + 1) lists))) f broken

  pub list_faults_step : (later : List (List ℕ)) → first_fault most earlier (sites_of inside (listed_as x)) ≡ None → later ≡ earlier ++ references (sites_of inside (listed_as x)) → i < length lists → x ≡ get_or lists i x
      → first_fault most earlier (sites_of_lists inside (map listed_as (drop i lists))) ≡ first_fault most later (sites_of_lists inside (map listed_as (drop (i + 1) lists)))
  list_faults_step later valid noted within here =
      ap (λ ls. first_fault most earlier (sites_of_lists inside ls)) (split_lists lists i x within here)
      ∙ fault_later most earlier later (sites_of inside (listed_as x)) (sites_of_lists inside (map listed_as (drop (i + 1) lists))) valid noted

  pub list_noted_step : (later : List (List ℕ)) → later ≡ earlier ++ references (sites_of inside (listed_as x)) → i < length lists → x ≡ get_or lists i x
      → earlier ++ references (sites_of_lists inside (map listed_as (drop i lists))) ≡ later ++ references (sites_of_lists inside (map listed_as (drop (i + 1) lists)))
  list_noted_step later noted within here =
      ap (λ ls. earlier ++ references (sites_of_lists inside ls)) (split_lists lists i x within here)
      ∙ references-later earlier later (sites_of inside (listed_as x)) (sites_of_lists inside (map listed_as (drop (i + 1) lists))) noted

  pub list_nodes_step : (kind : ℕ → Bool → List ℕ → Doc → NodeKind) (later : List (List ℕ)) (made pushed : List (List Node)) (nodes : List Node) → later ≡ earlier ++ references (sites_of inside (listed_as x))
      → nodes ≡ nodes_of inside kind (length earlier) (listed_as x) → pushed ≡ made ++ nodes ∷ [] → i < length lists → x ≡ get_or lists i x
      → made ++ nodes_of_lists inside kind (length earlier) (map listed_as (drop i lists)) ≡ pushed ++ nodes_of_lists inside kind (length later) (map listed_as (drop (i + 1) lists))
  list_nodes_step kind later made pushed nodes noted same more within here =
      let counted : length earlier + length (sites_of inside (listed_as x)) ≡ length later = omega (arith, noted_length earlier later (sites_of inside (listed_as x)) noted) in
      ap (λ ls. made ++ nodes_of_lists inside kind (length earlier) ls) (split_lists lists i x within here)
      ∙ ap (λ n. made ++ (nodes_of inside kind (length earlier) (listed_as x) ∷ nodes_of_lists inside kind n (map listed_as (drop (i + 1) lists)))) counted
      ∙ ap (λ y. made ++ (y ∷ nodes_of_lists inside kind (length later) (map listed_as (drop (i + 1) lists)))) (sym same)
      ∙ sym (append_assoc made (nodes ∷ []) (nodes_of_lists inside kind (length later) (map listed_as (drop (i + 1) lists))))
      ∙ ap (λ m. m ++ nodes_of_lists inside kind (length later) (map listed_as (drop (i + 1) lists))) (sym more)

-- ---- the lists inside a node

module _ (levels : ℕ) (looped : Bool) (place : List ℕ) (node : Doc) (ls : List NodeList) where
  -- the first fault inside a node is that of the lists inside it
  pub kind_fault : (most : ℕ) (earlier : List (List ℕ)) (fault : Option DefFault) → first_fault most earlier (sites_of_lists (sites_inside (levels - 1)) (map listed_as ls)) ≡ fault → map listed_as ls ≡ lists_inside looped place node → 0 < levels
      → first_fault most earlier (sites_inside levels looped place node) ≡ fault
  kind_fault most earlier fault found same some =
      ap (first_fault most earlier) (sites_inside-step levels looped place node some)
      ∙ ap (λ xs. first_fault most earlier (sites_of_lists (sites_inside (levels - 1)) xs)) (sym same)
      ∙ found

  pub kind_value : (index : ℕ) (made : List (List Node)) (kind : NodeKind) → made ≡ nodes_of_lists (sites_inside (levels - 1)) (kind_at (levels - 1)) index (map listed_as ls) → kind ≡ kind_with node made → map listed_as ls ≡ lists_inside looped place node → 0 < levels
      → kind ≡ kind_at levels index looped place node
  kind_value index made kind read with_lists same some =
      with_lists
      ∙ ap (kind_with node) (read ∙ ap (nodes_of_lists (sites_inside (levels - 1)) (kind_at (levels - 1)) index) same)
      ∙ sym (kind_at-step levels index looped place node some)
