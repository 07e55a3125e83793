-- The next step of a flow is a JOIN or a DO_WHILE only where the last attempt there is open, whatever the definition is.
use Rattle.std.proofs.Common.{◌≡◌, refl, ℕ, Bool, true, false, if◌then◌else◌, List, [], ◌∷◌, Option}
use Rattle.wf_machine.specs.declared.definition.Branch.{Branch'}
use Rattle.wf_machine.specs.declared.definition.Case.{Case'}
use Rattle.wf_machine.specs.declared.definition.Cases.{Cases', Row_of-Case, end_of-Case, more_of-Case}
use Rattle.wf_machine.specs.declared.definition.Node.{Node}
use Rattle.wf_machine.specs.declared.definition.NodeKind.{NodeKind, Simple, Switch, Fork', Join, Loop', SubFlow, SetVariable, Wait, Human, Terminate, Row_of-Branch, end_of-Branch, more_of-Branch, Row_of-Node, end_of-Node, more_of-Node}
use Rattle.wf_machine.specs.declared.walking.Mark.{Mark}
use Rattle.wf_machine.specs.declared.walking.Mark.TheVariants.{Fresh, Open, Done, Lost}
use Rattle.wf_machine.specs.declared.walking.Next.{Next}
use Rattle.wf_machine.specs.declared.walking.Next.TheVariants.{Schedule, Join as Joins, Turn as Turns, Waits, Done as AllDone}
use Rattle.wf_machine.specs.Sight.{Seen}
use Rattle.wf_machine.specs.Marks.{last_of, mark_of, or_then, beside, plain_next, switch_next, join_next, loop_next, turn_of, choice_of, is_chosen, next_of_node, next_inside, next_of_row, next_of_branches, next_of_choice, next_of_nodes, next_step}

abbrev pub IsAtOpen : List Seen → Next → Type 0
IsAtOpen f (Joins index i) = mark_of (last_of f index i) ≡ Open
IsAtOpen f (Turns index i) = mark_of (last_of f index i) ≡ Open
IsAtOpen f (Schedule index i) = Unit {0}
IsAtOpen f Waits = Unit {0}
IsAtOpen f AllDone = Unit {0}

open_or : (f : List Seen) (s r : Next) → IsAtOpen f s → IsAtOpen f r → IsAtOpen f (or_then s r)
open_or f AllDone r p q = q
open_or f Waits r p q = p
open_or f (Schedule index i) r p q = p
open_or f (Joins index i) r p q = p
open_or f (Turns index i) r p q = p

open_beside : (f : List Seen) (s r : Next) → IsAtOpen f s → IsAtOpen f r → IsAtOpen f (beside s r)
open_beside f AllDone r p q = q
open_beside f Waits r p q = open_or f r Waits q tt
open_beside f (Schedule index i) r p q = p
open_beside f (Joins index i) r p q = p
open_beside f (Turns index i) r p q = p

open_plain : (f : List Seen) (index i : ℕ) (m : Mark) → IsAtOpen f (plain_next index i m)
open_plain f index i Fresh = tt
open_plain f index i Open = tt
open_plain f index i Done = tt
open_plain f index i Lost = tt

open_join : (f : List Seen) (index i : ℕ) (m : Mark) (behind : Next) → mark_of (last_of f index i) ≡ m → IsAtOpen f behind → IsAtOpen f (join_next index i m behind)
open_join f index i Open behind e h = open_or f behind (Joins index i) h e
open_join f index i Fresh behind e h = tt
open_join f index i Done behind e h = tt
open_join f index i Lost behind e h = tt

open_loop : (f : List Seen) (index i : ℕ) (m : Mark) (body : Next) → mark_of (last_of f index i) ≡ m → IsAtOpen f body → IsAtOpen f (loop_next index i m body)
open_loop f index i Open body e h = open_or f body (Turns index i) h e
open_loop f index i Fresh body e h = tt
open_loop f index i Done body e h = tt
open_loop f index i Lost body e h = tt

open_switch : (f : List Seen) (index i : ℕ) (m : Mark) (chosen : Next) → IsAtOpen f chosen → IsAtOpen f (switch_next index i m chosen)
open_switch f index i Done chosen h = h
open_switch f index i Open chosen h = open_or f chosen Waits h tt
open_switch f index i Fresh chosen h = tt
open_switch f index i Lost chosen h = tt

open_if : (f : List Seen) (b : Bool) (x y : Next) → IsAtOpen f x → IsAtOpen f y → IsAtOpen f (if b then x else y)
open_if f true x y p q = p
open_if f false x y p q = q

mutual
  open_node : (f : List Seen) (i : ℕ) (behind : Next) (index : ℕ) (kind : NodeKind) → IsAtOpen f behind → IsAtOpen f (next_of_node f i behind index kind)
  open_node f i behind index (Switch (Cases' param s cases t nodes)) h =
      open_switch f index i (mark_of (last_of f index i)) _
      (open_choice f i (choice_of (last_of f index i)) (next_of_row f i AllDone nodes) cases (open_row f i AllDone nodes tt))
  open_node f i behind index (Join references) h = open_join f index i (mark_of (last_of f index i)) behind refl h
  open_node f i behind index (Loop' count s body) h =
      open_loop f index i (mark_of (last_of f index i)) (next_of_row f (turn_of (last_of f index i)) AllDone body) refl
      (open_row f (turn_of (last_of f index i)) AllDone body tt)
  open_node f i behind index Simple h = open_plain f index i (mark_of (last_of f index i))
  open_node f i behind index (Fork' s branches) h = open_plain f index i (mark_of (last_of f index i))
  open_node f i behind index (SubFlow name version) h = open_plain f index i (mark_of (last_of f index i))
  open_node f i behind index SetVariable h = open_plain f index i (mark_of (last_of f index i))
  open_node f i behind index Wait h = open_plain f index i (mark_of (last_of f index i))
  open_node f i behind index Human h = open_plain f index i (mark_of (last_of f index i))
  open_node f i behind index Terminate h = open_plain f index i (mark_of (last_of f index i))

  open_inside : (f : List Seen) (i : ℕ) (kind : NodeKind) → IsAtOpen f (next_inside f i kind)
  open_inside f i (Fork' s branches) = open_branches f i branches
  open_inside f i Simple = tt
  open_inside f i (Switch cases) = tt
  open_inside f i (Join references) = tt
  open_inside f i (Loop' count s body) = tt
  open_inside f i (SubFlow name version) = tt
  open_inside f i SetVariable = tt
  open_inside f i Wait = tt
  open_inside f i Human = tt
  open_inside f i Terminate = tt

  open_row : {m : _} (f : List Seen) (i : ℕ) (behind : Next) (r : Row_of-Node m) → IsAtOpen f behind → IsAtOpen f (next_of_row f i behind r)
  open_row f i behind end_of-Node h = tt
  open_row f i behind (more_of-Node index name reference optional start_delay input kind rest) h =
      open_or f (next_of_node f i behind index kind) _ (open_node f i behind index kind h)
      (open_row f i (next_inside f i kind) rest (open_inside f i kind))

  open_branches : {m : _} (f : List Seen) (i : ℕ) (r : Row_of-Branch m) → IsAtOpen f (next_of_branches f i r)
  open_branches f i end_of-Branch = tt
  open_branches f i (more_of-Branch (Branch' s nodes) rest) =
      open_beside f (next_of_row f i AllDone nodes) _ (open_row f i AllDone nodes tt) (open_branches f i rest)

  open_choice : {m : _} (f : List Seen) (i : ℕ) (choice : Option (List ℕ)) (otherwise : Next) (r : Row_of-Case m) → IsAtOpen f otherwise → IsAtOpen f (next_of_choice f i choice otherwise r)
  open_choice f i choice otherwise end_of-Case h = h
  open_choice f i choice otherwise (more_of-Case (Case' key s nodes) rest) h =
      open_if f (is_chosen choice key) _ _ (open_row f i AllDone nodes tt) (open_choice f i choice otherwise rest h)

open_nodes : (f : List Seen) (i : ℕ) (behind : Next) (nodes : List Node) → IsAtOpen f behind → IsAtOpen f (next_of_nodes f i behind nodes)
open_nodes f i behind [] h = tt
open_nodes f i behind (n ∷ rest) h =
    open_or f (next_of_node f i behind n.index n.kind) _ (open_node f i behind n.index n.kind h)
    (open_nodes f i (next_inside f i n.kind) rest (open_inside f i n.kind))

pub open_step : (f : List Seen) (nodes : List Node) → IsAtOpen f (next_step f nodes)
open_step f nodes = open_nodes f 0 AllDone nodes tt
