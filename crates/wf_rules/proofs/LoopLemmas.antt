-- What the next step tells of a flow's attempts: no attempt where one is scheduled, an open one at a JOIN or a DO_WHILE,
-- and where a DO_WHILE is turned one of its first node in that turn.
use Rattle.std.proofs.Common.{◌≡◌, ℕ, Bool, true, false, if◌then◌else◌, ◌||◌, ◌==◌, not, is_some, List, [], ◌∷◌, ◌++◌, Option, None, Some, refl, sym, ◌∙◌, ap, subst, append_assoc, arith}
use Rattle.std.proofs.lemmas.Bool.Decides.{nat_tests}
use Rattle.std.specs.List.{list_any}
use Rattle.wf_names.specs.TaskStatus.{task_is_open, task_is_successful}
use Rattle.wf_machine.specs.declared.definition.Node.{Node}
use Rattle.wf_machine.specs.declared.definition.Case.{Case'}
use Rattle.wf_machine.specs.declared.definition.Branch.{Branch'}
use Rattle.wf_machine.specs.declared.definition.Cases.{Cases', Row_of-Case, end_of-Case, more_of-Case}
use Rattle.wf_machine.specs.declared.definition.NodeKind.{NodeKind, Simple, Switch, Fork', Join, Loop', SubFlow, SetVariable, Wait, Human, Terminate, Row_of-Branch, end_of-Branch, more_of-Branch, Row_of-Node, end_of-Node, more_of-Node}
use Rattle.wf_machine.specs.declared.walking.Mark.{Mark}
use Rattle.wf_machine.specs.declared.walking.Mark.TheVariants.{Fresh, Open, Done, Lost}
use Rattle.wf_machine.specs.declared.walking.Next.{Next}
use Rattle.wf_machine.specs.declared.walking.Next.TheVariants.{Schedule, Join as Joins, Turn as Turns, Waits, Done as AllDone}
use Rattle.wf_machine.specs.Sight.{Seen}
use Rattle.wf_machine.specs.Marks.{last_of, mark_of, or_then, beside, plain_next, switch_next, join_next, loop_next, turn_of, choice_of, is_chosen, next_of_node, next_inside, next_of_row, next_of_branches, next_of_choice, next_of_nodes, inside_kind, in_row, in_branches, in_cases, all_nodes}
use Rattle.wf_machine.specs.Records.{is_loop}
use Rattle.wf_rules.specs.Loops.{first_index, pair_with, head_of, heads, is_pair, begins_with, is_loop_node, is_bad_loop}
use Rattle.wf_rules.proofs.PlanLemmas.{or_false, none_left, none_right, any_left, any_right}

-- the first node of the DO_WHILE has an attempt in the present turn
pub record IsTurned (hs : List (ℕ × ℕ)) (f : List Seen) (index : ℕ) : Type 0 where
  pub first : ℕ
  pub there : begins_with hs index first ≡ true
  pub tried : is_some (last_of f first (turn_of (last_of f index 0))) ≡ true

abbrev pub Asked : List (ℕ × ℕ) → List Seen → Next → Type 0
Asked hs f (Schedule index i) = last_of f index i ≡ None
Asked hs f (Joins index i) = mark_of (last_of f index i) ≡ Open
Asked hs f (Turns index i) = (i ≡ 0) × (mark_of (last_of f index 0) ≡ Open) × IsTurned hs f index
Asked hs f Waits = Unit {0}
Asked hs f AllDone = Unit {0}

asked_or : (hs : List (ℕ × ℕ)) (f : List Seen) (s r : Next) → Asked hs f s → Asked hs f r → Asked hs f (or_then s r)
asked_or hs f AllDone r p q = q
asked_or hs f Waits r p q = p
asked_or hs f (Schedule index i) r p q = p
asked_or hs f (Joins index i) r p q = p
asked_or hs f (Turns index i) r p q = p

asked_beside : (hs : List (ℕ × ℕ)) (f : List Seen) (s r : Next) → Asked hs f s → Asked hs f r → Asked hs f (beside s r)
asked_beside hs f AllDone r p q = q
asked_beside hs f Waits r p q = asked_or hs f r Waits q tt
asked_beside hs f (Schedule index i) r p q = p
asked_beside hs f (Joins index i) r p q = p
asked_beside hs f (Turns index i) r p q = p

fresh_none : (o : Option Seen) → mark_of o ≡ Fresh → o ≡ None
fresh_none None h = refl
fresh_none (Some a) h = by_status (task_is_open a.status) (task_is_successful a.status) h where
  by_status : (b c : Bool) → (if b then Open else if c then Done else Lost) ≡ Fresh → Some a ≡ None
  by_status true c h = cc
  by_status false true h = cc
  by_status false false h = cc

asked_plain : (hs : List (ℕ × ℕ)) (f : List Seen) (index i : ℕ) (m : Mark) → mark_of (last_of f index i) ≡ m → Asked hs f (plain_next index i m)
asked_plain hs f index i Fresh h = fresh_none (last_of f index i) h
asked_plain hs f index i Open h = tt
asked_plain hs f index i Done h = tt
asked_plain hs f index i Lost h = tt

asked_join : (hs : List (ℕ × ℕ)) (f : List Seen) (index i : ℕ) (m : Mark) (behind : Next) → mark_of (last_of f index i) ≡ m → Asked hs f behind → Asked hs f (join_next index i m behind)
asked_join hs f index i Open behind e h = asked_or hs f behind (Joins index i) h e
asked_join hs f index i Fresh behind e h = fresh_none (last_of f index i) e
asked_join hs f index i Done behind e h = tt
asked_join hs f index i Lost behind e h = tt

asked_switch : (hs : List (ℕ × ℕ)) (f : List Seen) (index i : ℕ) (m : Mark) (chosen : Next) → mark_of (last_of f index i) ≡ m → Asked hs f chosen → Asked hs f (switch_next index i m chosen)
asked_switch hs f index i Done chosen e h = h
asked_switch hs f index i Fresh chosen e h = fresh_none (last_of f index i) e
asked_switch hs f index i Open chosen e h = asked_or hs f chosen Waits h tt
asked_switch hs f index i Lost chosen e h = tt

asked_turn : (hs : List (ℕ × ℕ)) (f : List Seen) (index : ℕ) (body : Next) → mark_of (last_of f index 0) ≡ Open → Asked hs f body → (body ≡ AllDone → IsTurned hs f index) → Asked hs f (or_then body (Turns index 0))
asked_turn hs f index AllDone e h k = (refl, e, k refl)
asked_turn hs f index Waits e h k = tt
asked_turn hs f index (Schedule n i) e h k = h
asked_turn hs f index (Joins n i) e h k = h
asked_turn hs f index (Turns n i) e h k = h

asked_loop : (hs : List (ℕ × ℕ)) (f : List Seen) (index : ℕ) (m : Mark) (body : Next) → mark_of (last_of f index 0) ≡ m → Asked hs f body → (body ≡ AllDone → IsTurned hs f index) → Asked hs f (loop_next index 0 m body)
asked_loop hs f index Open body e h k = asked_turn hs f index body e h k
asked_loop hs f index Fresh body e h k = fresh_none (last_of f index 0) e
asked_loop hs f index Done body e h k = tt
asked_loop hs f index Lost body e h k = tt

asked_if : (hs : List (ℕ × ℕ)) (f : List Seen) (b : Bool) (x y : Next) → Asked hs f x → Asked hs f y → Asked hs f (if b then x else y)
asked_if hs f true x y p q = p
asked_if hs f false x y p q = q

-- ---- a node that is done has an attempt

or_done : (s r : Next) → or_then s r ≡ AllDone → s ≡ AllDone
or_done AllDone r h = refl
or_done Waits r h = cc
or_done (Schedule index i) r h = cc
or_done (Joins index i) r h = cc
or_done (Turns index i) r h = cc

fresh_node : (f : List Seen) (i : ℕ) (behind : Next) (index : ℕ) (kind : NodeKind) → last_of f index i ≡ None → next_of_node f i behind index kind ≡ Schedule index i
fresh_node f i behind index Simple is = rw is refl
fresh_node f i behind index (Switch (Cases' param s cases t nodes)) is = rw is refl
fresh_node f i behind index (Fork' s branches) is = rw is refl
fresh_node f i behind index (Join references) is = rw is refl
fresh_node f i behind index (Loop' count s body) is = rw is refl
fresh_node f i behind index (SubFlow name version) is = rw is refl
fresh_node f i behind index SetVariable is = rw is refl
fresh_node f i behind index Wait is = rw is refl
fresh_node f i behind index Human is = rw is refl
fresh_node f i behind index Terminate is = rw is refl

done_node : (f : List Seen) (i : ℕ) (behind : Next) (index : ℕ) (kind : NodeKind) → next_of_node f i behind index kind ≡ AllDone → is_some (last_of f index i) ≡ true
done_node f i behind index kind h = by_last (last_of f index i) refl where
  by_last : (o : Option Seen) → last_of f index i ≡ o → is_some o ≡ true
  by_last (Some a) is = refl
  by_last None is = let other : Schedule index i ≡ AllDone = sym (fresh_node f i behind index kind is) ∙ h in cc

-- the first node of a body that is done has an attempt in the turn
done_body : {m : _} (f : List Seen) (i : ℕ) (r : Row_of-Node m) → is_some (first_index r) ≡ true → next_of_row f i AllDone r ≡ AllDone
    → (first : ℕ) × (first_index r ≡ Some first) × (is_some (last_of f first i) ≡ true)
done_body f i end_of-Node some h = cc
done_body f i (more_of-Node index name reference optional start_delay input kind rest) some h =
    (index, refl, done_node f i AllDone index kind (or_done (next_of_node f i AllDone index kind) _ h))

-- ---- parts of a definition

-- what isn't allowed: inside a DO_WHILE another one, elsewhere one with no body or with another one in it
abbrev pub is_bad : Bool → Node → Bool
is_bad true n = is_loop n.kind
is_bad false n = is_bad_loop n.kind

abbrev is_bad_kind : Bool → NodeKind → Bool
is_bad_kind true kind = is_loop kind
is_bad_kind false kind = is_bad_loop kind

abbrev pub Within : List (ℕ × ℕ) → List (ℕ × ℕ) → Type 0
Within hs xs = (loop first : ℕ) → begins_with xs loop first ≡ true → begins_with hs loop first ≡ true

within_left : (hs xs ys : List (ℕ × ℕ)) → Within hs (xs ++ ys) → Within hs xs
within_left hs xs ys h = λ loop first k. h loop first (any_left (is_pair loop first) xs ys k)

within_right : (hs xs ys : List (ℕ × ℕ)) → Within hs (xs ++ ys) → Within hs ys
within_right hs xs ys h = λ loop first k. h loop first (any_right (is_pair loop first) xs ys k)

heads_append : (xs ys : List Node) → heads (xs ++ ys) ≡ heads xs ++ heads ys
heads_append [] ys = refl
heads_append (x ∷ xs) ys = rw (heads_append xs ys) (sym (append_assoc (head_of x.index x.kind) (heads xs) (heads ys)))

-- the nodes of a part of the definition
record Fits (hs : List (ℕ × ℕ)) (b : Bool) (xs : List Node) : Type 0 where
  fit : list_any (is_bad b) xs ≡ false
  headed : Within hs (heads xs)

fits_left : (hs : List (ℕ × ℕ)) (b : Bool) (xs ys : List Node) → Fits hs b (xs ++ ys) → Fits hs b xs
fits_left hs b xs ys h = record {
  fit = none_left (is_bad b) xs ys h.fit;
  headed = within_left hs (heads xs) (heads ys) (subst (Within hs) (heads_append xs ys) h.headed);
}

fits_right : (hs : List (ℕ × ℕ)) (b : Bool) (xs ys : List Node) → Fits hs b (xs ++ ys) → Fits hs b ys
fits_right hs b xs ys h = record {
  fit = none_right (is_bad b) xs ys h.fit;
  headed = within_right hs (heads xs) (heads ys) (subst (Within hs) (heads_append xs ys) h.headed);
}

fits_rest : (hs : List (ℕ × ℕ)) (b : Bool) (x : Node) (xs : List Node) → Fits hs b (x ∷ xs) → Fits hs b xs
fits_rest hs b x xs h = record {
  fit = (or_false (is_bad b x) (list_any (is_bad b) xs) h.fit).1;
  headed = within_right hs (head_of x.index x.kind) (heads xs) h.headed;
}

-- of a node itself
record FitsNode (hs : List (ℕ × ℕ)) (b : Bool) (index : ℕ) (kind : NodeKind) : Type 0 where
  fit : is_bad_kind b kind ≡ false
  headed : Within hs (head_of index kind)

bad_kind : (b : Bool) (n : Node) → is_bad b n ≡ is_bad_kind b n.kind
bad_kind true n = refl
bad_kind false n = refl

fits_first : (hs : List (ℕ × ℕ)) (b : Bool) (x : Node) (xs : List Node) → Fits hs b (x ∷ xs) → FitsNode hs b x.index x.kind
fits_first hs b x xs h = record {
  fit = sym (bad_kind b x) ∙ (or_false (is_bad b x) (list_any (is_bad b) xs) h.fit).0;
  headed = within_left hs (head_of x.index x.kind) (heads xs) h.headed;
}

-- inside a DO_WHILE nothing is turned
no_loop_inside : (hs : List (ℕ × ℕ)) (xs : List Node) → list_any is_loop_node xs ≡ false → Within hs (heads xs) → Fits hs true xs
no_loop_inside hs xs h k = record { fit = same xs ∙ h; headed = k } where
  same : (xs : List Node) → list_any (is_bad true) xs ≡ list_any is_loop_node xs
  same [] = refl
  same (x ∷ xs) = ap (λ c. is_loop x.kind || c) (same xs)

not_false : (b : Bool) → not b ≡ false → b ≡ true
not_false true h = refl
not_false false h = cc

pair_there : (index first : ℕ) → begins_with ((index, first) ∷ []) index first ≡ true
pair_there index first = let one : (index == index) ≡ true = grind (arith, nat_tests) in let two : (first == first) ≡ true = grind (arith, nat_tests) in rw (one, two) refl

pair_found : (index first : ℕ) (o : Option ℕ) → o ≡ Some first → begins_with (pair_with index o) index first ≡ true
pair_found index first o is = rw is (pair_there index first)

mutual
  asked_node : (hs : List (ℕ × ℕ)) (f : List Seen) (b : Bool) (i : ℕ) (behind : Next) (index : ℕ) (kind : NodeKind)
      → (b ≡ false → i ≡ 0) → FitsNode hs b index kind → Fits hs b (inside_kind kind) → Asked hs f behind → Asked hs f (next_of_node f i behind index kind)
  asked_node hs f b i behind index Simple z n h k = asked_plain hs f index i (mark_of (last_of f index i)) refl
  asked_node hs f b i behind index (Switch (Cases' param s cases t nodes)) z n h k =
      asked_switch hs f index i (mark_of (last_of f index i)) _ refl
      (asked_choice hs f b i (choice_of (last_of f index i)) (next_of_row f i AllDone nodes) cases z (fits_left hs b (in_cases cases) (in_row nodes) h)
      (asked_row hs f b i AllDone nodes z (fits_right hs b (in_cases cases) (in_row nodes) h) tt))
  asked_node hs f b i behind index (Fork' s branches) z n h k = asked_plain hs f index i (mark_of (last_of f index i)) refl
  asked_node hs f b i behind index (Join references) z n h k = asked_join hs f index i (mark_of (last_of f index i)) behind refl k
  asked_node hs f true i behind index (Loop' count s body) z n h k = let no = n.fit in cc
  asked_node hs f false i behind index (Loop' count s body) z n h k =
      let at_zero = z refl in
      let parts = or_false (not (is_some (first_index body))) (list_any is_loop_node (in_row body)) n.fit in
      let turn = turn_of (last_of f index 0) in
      rw at_zero
      (asked_loop hs f index (mark_of (last_of f index 0)) (next_of_row f turn AllDone body) refl
      (asked_row hs f true turn AllDone body (λ e. cc) (no_loop_inside hs (in_row body) parts.1 h.headed) tt)
      (λ done. (let found = done_body f turn body (not_false (is_some (first_index body)) parts.0) done in
      record {
        first = found.0;
        there = n.headed index found.0 (pair_found index found.0 (first_index body) found.1);
        tried = found.2;
      })))
  asked_node hs f b i behind index (SubFlow name version) z n h k = asked_plain hs f index i (mark_of (last_of f index i)) refl
  asked_node hs f b i behind index SetVariable z n h k = asked_plain hs f index i (mark_of (last_of f index i)) refl
  asked_node hs f b i behind index Wait z n h k = asked_plain hs f index i (mark_of (last_of f index i)) refl
  asked_node hs f b i behind index Human z n h k = asked_plain hs f index i (mark_of (last_of f index i)) refl
  asked_node hs f b i behind index Terminate z n h k = asked_plain hs f index i (mark_of (last_of f index i)) refl

  asked_inside : (hs : List (ℕ × ℕ)) (f : List Seen) (b : Bool) (i : ℕ) (kind : NodeKind) → (b ≡ false → i ≡ 0) → Fits hs b (inside_kind kind) → Asked hs f (next_inside f i kind)
  asked_inside hs f b i (Fork' s branches) z h = asked_branches hs f b i branches z h
  asked_inside hs f b i Simple z h = tt
  asked_inside hs f b i (Switch cases) z h = tt
  asked_inside hs f b i (Join references) z h = tt
  asked_inside hs f b i (Loop' count s body) z h = tt
  asked_inside hs f b i (SubFlow name version) z h = tt
  asked_inside hs f b i SetVariable z h = tt
  asked_inside hs f b i Wait z h = tt
  asked_inside hs f b i Human z h = tt
  asked_inside hs f b i Terminate z h = tt

  asked_row : {m : _} (hs : List (ℕ × ℕ)) (f : List Seen) (b : Bool) (i : ℕ) (behind : Next) (r : Row_of-Node m)
      → (b ≡ false → i ≡ 0) → Fits hs b (in_row r) → Asked hs f behind → Asked hs f (next_of_row f i behind r)
  asked_row hs f b i behind end_of-Node z h k = tt
  asked_row hs f b i behind (more_of-Node index name reference optional start_delay input kind rest) z h k =
      let node : Node = record { index = index; name = name; reference = reference; optional = optional; start_delay = start_delay; input = input; kind = kind } in
      let more = fits_rest hs b node (inside_kind kind ++ in_row rest) h in
      asked_or hs f (next_of_node f i behind index kind) _
      (asked_node hs f b i behind index kind z (fits_first hs b node (inside_kind kind ++ in_row rest) h) (fits_left hs b (inside_kind kind) (in_row rest) more) k)
      (asked_row hs f b i (next_inside f i kind) rest z (fits_right hs b (inside_kind kind) (in_row rest) more)
      (asked_inside hs f b i kind z (fits_left hs b (inside_kind kind) (in_row rest) more)))

  asked_branches : {m : _} (hs : List (ℕ × ℕ)) (f : List Seen) (b : Bool) (i : ℕ) (r : Row_of-Branch m) → (b ≡ false → i ≡ 0) → Fits hs b (in_branches r) → Asked hs f (next_of_branches f i r)
  asked_branches hs f b i end_of-Branch z h = tt
  asked_branches hs f b i (more_of-Branch (Branch' s nodes) rest) z h =
      asked_beside hs f (next_of_row f i AllDone nodes) _ (asked_row hs f b i AllDone nodes z (fits_left hs b (in_row nodes) (in_branches rest) h) tt)
      (asked_branches hs f b i rest z (fits_right hs b (in_row nodes) (in_branches rest) h))

  asked_choice : {m : _} (hs : List (ℕ × ℕ)) (f : List Seen) (b : Bool) (i : ℕ) (choice : Option (List ℕ)) (otherwise : Next) (r : Row_of-Case m)
      → (b ≡ false → i ≡ 0) → Fits hs b (in_cases r) → Asked hs f otherwise → Asked hs f (next_of_choice f i choice otherwise r)
  asked_choice hs f b i choice otherwise end_of-Case z h k = k
  asked_choice hs f b i choice otherwise (more_of-Case (Case' key s nodes) rest) z h k =
      asked_if hs f (is_chosen choice key) _ _ (asked_row hs f b i AllDone nodes z (fits_left hs b (in_row nodes) (in_cases rest) h) tt)
      (asked_choice hs f b i choice otherwise rest z (fits_right hs b (in_row nodes) (in_cases rest) h) k)

asked_nodes : (hs : List (ℕ × ℕ)) (f : List Seen) (behind : Next) (nodes : List Node) → Fits hs false (all_nodes nodes) → Asked hs f behind → Asked hs f (next_of_nodes f 0 behind nodes)
asked_nodes hs f behind [] h k = tt
asked_nodes hs f behind (n ∷ rest) h k =
    let more = fits_rest hs false n (inside_kind n.kind ++ all_nodes rest) h in
    asked_or hs f (next_of_node f 0 behind n.index n.kind) _
    (asked_node hs f false 0 behind n.index n.kind (λ e. refl) (fits_first hs false n (inside_kind n.kind ++ all_nodes rest) h) (fits_left hs false (inside_kind n.kind) (all_nodes rest) more) k)
    (asked_nodes hs f (next_inside f 0 n.kind) rest (fits_right hs false (inside_kind n.kind) (all_nodes rest) more)
    (asked_inside hs f false 0 n.kind (λ e. refl) (fits_left hs false (inside_kind n.kind) (all_nodes rest) more)))

pub asked_step : (f : List Seen) (nodes : List Node) → list_any (λ (n : Node). is_bad_loop n.kind) (all_nodes nodes) ≡ false
    → Asked (heads (all_nodes nodes)) f (next_of_nodes f 0 AllDone nodes)
asked_step f nodes h = asked_nodes (heads (all_nodes nodes)) f AllDone nodes (record { fit = same (all_nodes nodes) ∙ h; headed = λ loop first k. k }) tt where
  same : (xs : List Node) → list_any (is_bad false) xs ≡ list_any (λ (n : Node). is_bad_loop n.kind) xs
  same [] = refl
  same (x ∷ xs) = ap (λ c. is_bad_loop x.kind || c) (same xs)
