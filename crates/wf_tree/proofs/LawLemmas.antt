-- What lists of nodes and branches ask for, and the marks of the nodes.
use Rattle.std.proofs.Common.{◌≡◌, ◌≢◌, ◌↔◌, ℕ, true, false, List, [], ◌∷◌, ◌++◌, All, refl}
use Rattle.std.proofs.lemmas.List.Elements.{All-nil, All-cons, All-head, All-tail}
use Rattle.wf_machine.specs.declared.definition.Branch.{Branch}
use Rattle.wf_machine.specs.declared.definition.Cases.{Cases'}
use Rattle.wf_machine.specs.declared.definition.Node.{Node}
use Rattle.wf_machine.specs.declared.definition.NodeKind.{NodeKind, Simple, Switch, Fork', Join, Loop', SubFlow, SetVariable, Wait, Human, Terminate}
use Rattle.wf_machine.specs.declared.walking.Mark.{Mark}
use Rattle.wf_machine.specs.declared.walking.Mark.TheVariants.{Fresh, Open, Done, Lost}
use Rattle.wf_machine.specs.declared.walking.Next.{Next}
use Rattle.wf_machine.specs.declared.walking.Next.TheVariants.{Schedule, Join as Joins, Turn, Waits, Done as AllDone}
use Rattle.wf_machine.specs.Sight.{Seen}
use Rattle.wf_machine.specs.Marks.{last_of, mark_of, turn_of, choice_of, or_then, beside, plain_next, join_next, loop_next, switch_next, switch_mark, node_mark, next_inside, next_of_node, next_of_nodes, next_of_row, next_of_choice, next_of_each}
use Rattle.wf_tree.specs.Laws.{IsDone, can_be_taken, next_before, next_of_branch}

-- ---- steps

both_done : (a b : Next) → or_then a b ≡ AllDone → (a ≡ AllDone) × (b ≡ AllDone)
both_done AllDone b same = (refl, same)
both_done (Schedule n i) b same = let no : ⊥ = cc in absurd no
both_done (Joins n i) b same = let no : ⊥ = cc in absurd no
both_done (Turn n i) b same = let no : ⊥ = cc in absurd no
both_done Waits b same = let no : ⊥ = cc in absurd no

or_first : (a b : Next) → a ≢ AllDone → or_then a b ≡ a
or_first AllDone b differ = absurd (differ refl)
or_first (Schedule n i) b differ = refl
or_first (Joins n i) b differ = refl
or_first (Turn n i) b differ = refl
or_first Waits b differ = refl

both_beside : (a b : Next) → beside a b ≡ AllDone → (a ≡ AllDone) × (b ≡ AllDone)
both_beside AllDone b same = (refl, same)
both_beside Waits b same = let waits = (both_done b Waits same).1 in let no : ⊥ = cc in absurd no
both_beside (Schedule n i) b same = let no : ⊥ = cc in absurd no
both_beside (Joins n i) b same = let no : ⊥ = cc in absurd no
both_beside (Turn n i) b same = let no : ⊥ = cc in absurd no

beside_first : (a b : Next) → can_be_taken a ≡ true → beside a b ≡ a
beside_first AllDone b taken = let no : ⊥ = cc in absurd no
beside_first Waits b taken = let no : ⊥ = cc in absurd no
beside_first (Schedule n i) b taken = refl
beside_first (Joins n i) b taken = refl
beside_first (Turn n i) b taken = refl

beside_second : (a b : Next) → can_be_taken a ≡ false → can_be_taken b ≡ true → beside a b ≡ b
beside_second AllDone b idle taken = refl
beside_second Waits AllDone idle taken = let no : ⊥ = cc in absurd no
beside_second Waits Waits idle taken = let no : ⊥ = cc in absurd no
beside_second Waits (Schedule n i) idle taken = refl
beside_second Waits (Joins n i) idle taken = refl
beside_second Waits (Turn n i) idle taken = refl
beside_second (Schedule n i) b idle taken = let no : ⊥ = cc in absurd no
beside_second (Joins n i) b idle taken = let no : ⊥ = cc in absurd no
beside_second (Turn n i) b idle taken = let no : ⊥ = cc in absurd no

-- ---- nodes

plain_done : (index i : ℕ) (m : Mark) → (plain_next index i m ≡ AllDone) ↔ (m ≡ Done)
plain_done index i Fresh = (λ same. let no : ⊥ = cc in absurd no, λ same. let no : ⊥ = cc in absurd no)
plain_done index i Open = (λ same. let no : ⊥ = cc in absurd no, λ same. let no : ⊥ = cc in absurd no)
plain_done index i Done = (λ same. refl, λ same. refl)
plain_done index i Lost = (λ same. let no : ⊥ = cc in absurd no, λ same. let no : ⊥ = cc in absurd no)

join_done : (index i : ℕ) (m : Mark) (behind : Next) → (join_next index i m behind ≡ AllDone) ↔ (m ≡ Done)
join_done index i Open behind = (λ same. let joins = (both_done behind (Joins index i) same).1 in let no : ⊥ = cc in absurd no, λ same. let no : ⊥ = cc in absurd no)
join_done index i Fresh behind = plain_done index i Fresh
join_done index i Done behind = plain_done index i Done
join_done index i Lost behind = plain_done index i Lost

loop_done : (index i : ℕ) (m : Mark) (body : Next) → (loop_next index i m body ≡ AllDone) ↔ (m ≡ Done)
loop_done index i Open body = (λ same. let turns = (both_done body (Turn index i) same).1 in let no : ⊥ = cc in absurd no, λ same. let no : ⊥ = cc in absurd no)
loop_done index i Fresh body = plain_done index i Fresh
loop_done index i Done body = plain_done index i Done
loop_done index i Lost body = plain_done index i Lost

chosen_done : (chosen : Next) → (chosen ≡ AllDone) ↔ (switch_mark Done chosen ≡ Done)
chosen_done AllDone = (λ same. refl, λ same. refl)
chosen_done (Schedule n i) = (λ same. let no : ⊥ = cc in absurd no, λ same. let no : ⊥ = cc in absurd no)
chosen_done (Joins n i) = (λ same. let no : ⊥ = cc in absurd no, λ same. let no : ⊥ = cc in absurd no)
chosen_done (Turn n i) = (λ same. let no : ⊥ = cc in absurd no, λ same. let no : ⊥ = cc in absurd no)
chosen_done Waits = (λ same. let no : ⊥ = cc in absurd no, λ same. let no : ⊥ = cc in absurd no)

switch_done : (index i : ℕ) (m : Mark) (chosen : Next) → (switch_next index i m chosen ≡ AllDone) ↔ (switch_mark m chosen ≡ Done)
switch_done index i Done chosen = chosen_done chosen
switch_done index i Open chosen = (λ same. let waits = (both_done chosen Waits same).1 in let no : ⊥ = cc in absurd no, λ same. let no : ⊥ = cc in absurd no)
switch_done index i Fresh chosen = plain_done index i Fresh
switch_done index i Lost chosen = plain_done index i Lost

node_done : (f : List Seen) (i : ℕ) (behind : Next) (index : ℕ) (kind : NodeKind) → (next_of_node f i behind index kind ≡ AllDone) ↔ (node_mark f i index kind ≡ Done)
node_done f i behind index (Switch (Cases' param s cases t nodes)) =
    switch_done index i (mark_of (last_of f index i)) (next_of_choice f i (choice_of (last_of f index i)) (next_of_row f i AllDone nodes) cases)
node_done f i behind index (Join references) = join_done index i (mark_of (last_of f index i)) behind
node_done f i behind index (Loop' count s body) =
    loop_done index i (mark_of (last_of f index i)) (next_of_row f (turn_of (last_of f index i)) AllDone body)
node_done f i behind index (Fork' s branches) = plain_done index i (mark_of (last_of f index i))
node_done f i behind index (SubFlow name version) = plain_done index i (mark_of (last_of f index i))
node_done f i behind index Simple = plain_done index i (mark_of (last_of f index i))
node_done f i behind index SetVariable = plain_done index i (mark_of (last_of f index i))
node_done f i behind index Wait = plain_done index i (mark_of (last_of f index i))
node_done f i behind index Human = plain_done index i (mark_of (last_of f index i))
node_done f i behind index Terminate = plain_done index i (mark_of (last_of f index i))

-- ---- lists

asks_nothing : (f : List Seen) (i : ℕ) (behind : Next) (nodes : List Node) → All (IsDone f i) nodes → next_of_nodes f i behind nodes ≡ AllDone
asks_nothing f i behind [] done = refl
asks_nothing f i behind (n ∷ rest) done =
    rw ((node_done f i behind n.index n.kind).1 (All-head (IsDone f i) n rest done)) (asks_nothing f i (next_inside f i n.kind) rest (All-tail (IsDone f i) n rest done))

all_done : (f : List Seen) (i : ℕ) (behind : Next) (nodes : List Node) → next_of_nodes f i behind nodes ≡ AllDone → All (IsDone f i) nodes
all_done f i behind [] same = All-nil (IsDone f i)
all_done f i behind (n ∷ rest) same =
    let parts = both_done (next_of_node f i behind n.index n.kind) (next_of_nodes f i (next_inside f i n.kind) rest) same in
    All-cons (IsDone f i) n rest ((node_done f i behind n.index n.kind).0 parts.0) (all_done f i (next_inside f i n.kind) rest parts.1)

pub list_done : (f : List Seen) (i : ℕ) (behind : Next) (nodes : List Node) → (next_of_nodes f i behind nodes ≡ AllDone) ↔ All (IsDone f i) nodes
list_done f i behind nodes = (all_done f i behind nodes, asks_nothing f i behind nodes)

pub first_asks : (f : List Seen) (i : ℕ) (behind : Next) (before : List Node) (n : Node) (rest : List Node) → All (IsDone f i) before → node_mark f i n.index n.kind ≢ Done → next_of_nodes f i behind (before ++ n ∷ rest) ≡ next_of_node f i (next_before f i behind before) n.index n.kind
first_asks f i behind [] n rest done unfinished =
    or_first (next_of_node f i behind n.index n.kind) (next_of_nodes f i (next_inside f i n.kind) rest) (λ same. unfinished ((node_done f i behind n.index n.kind).0 same))
first_asks f i behind (x ∷ before) n rest done unfinished =
    rw ((node_done f i behind x.index x.kind).1 (All-head (IsDone f i) x before done))
    (first_asks f i (next_inside f i x.kind) before n rest (All-tail (IsDone f i) x before done) unfinished)

-- ---- branches

branches_ask_nothing : (f : List Seen) (i : ℕ) (branches : List Branch) → All (λ b. next_of_branch f i b ≡ AllDone) branches → next_of_each f i branches ≡ AllDone
branches_ask_nothing f i [] done = refl
branches_ask_nothing f i (b ∷ rest) done =
    let first = All-head (λ b. next_of_branch f i b ≡ AllDone) b rest done in
    rw first (branches_ask_nothing f i rest (All-tail (λ b. next_of_branch f i b ≡ AllDone) b rest done))

all_branches_done : (f : List Seen) (i : ℕ) (branches : List Branch) → next_of_each f i branches ≡ AllDone → All (λ b. next_of_branch f i b ≡ AllDone) branches
all_branches_done f i [] same = All-nil (λ b. next_of_branch f i b ≡ AllDone)
all_branches_done f i (b ∷ rest) same =
    let parts = both_beside (next_of_branch f i b) (next_of_each f i rest) same in
    All-cons (λ b. next_of_branch f i b ≡ AllDone) b rest parts.0 (all_branches_done f i rest parts.1)

pub branches_done : (f : List Seen) (i : ℕ) (branches : List Branch) → (next_of_each f i branches ≡ AllDone) ↔ All (λ b. next_of_branch f i b ≡ AllDone) branches
branches_done f i branches = (all_branches_done f i branches, branches_ask_nothing f i branches)

pub first_branch : (f : List Seen) (i : ℕ) (before : List Branch) (b : Branch) (rest : List Branch) → All (λ b. can_be_taken (next_of_branch f i b) ≡ false) before → can_be_taken (next_of_branch f i b) ≡ true → next_of_each f i (before ++ b ∷ rest) ≡ next_of_branch f i b
first_branch f i [] b rest idle taken = beside_first (next_of_branch f i b) (next_of_each f i rest) taken
first_branch f i (x ∷ before) b rest idle taken =
    let later = first_branch f i before b rest (All-tail (λ b. can_be_taken (next_of_branch f i b) ≡ false) x before idle) taken in
    let first = All-head (λ b. can_be_taken (next_of_branch f i b) ≡ false) x before idle in
    rw later (beside_second (next_of_branch f i x) (next_of_branch f i b) first taken)
