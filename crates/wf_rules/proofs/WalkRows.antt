-- Worked rows of the walk over nodes: the attempts of a flow, and what it asks for next. Each row was worked out by hand.
use Rattle.std.proofs.Common.{◌≡◌, ℕ, true, false, List, [], ◌∷◌, map, pos, refl, ap, ◌∙◌, None}
use Rattle.wf_doc.specs.declared.doc.Doc.TheVariants.{Null}
use Rattle.wf_names.specs.declared.statuses.TaskStatus.{TaskStatus}
use Rattle.wf_names.specs.declared.statuses.TaskStatus.TheVariants.{Scheduled, InProgress, Completed, CompletedWithErrors, Skipped, Failed, FailedWithTerminalError, TimedOut, Canceled}
use Rattle.wf_machine.specs.declared.definition.Branch.{Branch, out-Branch}
use Rattle.wf_machine.specs.declared.definition.Count.TheVariants.{Number}
use Rattle.wf_machine.specs.declared.definition.Node.{Node}
use Rattle.wf_machine.specs.declared.definition.NodeKind.{NodeKind, Simple, Fork, Join, Loop, SubFlow, SetVariable, Wait, Human, Terminate}
use Rattle.wf_machine.specs.declared.walking.Next.{Next}
use Rattle.wf_machine.specs.declared.walking.Next.TheVariants.{Schedule, Join as Joins, Turn as Turns, Waits, Done as AllDone}
use Rattle.wf_machine.specs.State.{empty_table}
use Rattle.wf_machine.specs.Sight.{Seen}
use Rattle.wf_machine.specs.Marks.{last_of, mark_of, turn_of, or_then, beside, plain_next, join_next, loop_next, next_of_nodes, next_step}
use Rattle.wf_machine.proofs.TreeLemmas.{next_loop, inside_fork}

-- ---- attempts

abbrev tried : ℕ → ℕ → TaskStatus → Seen
tried node iteration status =
    record {
      node = node;
      iteration = iteration;
      status = status;
      input = Null;
      output = empty_table;
      reason = [];
      retry = 0;
      timing = None;
      turn = 1;
      superseded = false;
    }

-- outside loops
abbrev plain : ℕ → TaskStatus → Seen
plain node status = tried node 0 status

-- of a DO_WHILE in that turn
abbrev turning : ℕ → ℕ → TaskStatus → Seen
turning node turn status = record (tried node 0 status) { turn = turn }

abbrev gone : Seen → Seen
gone a = record a { superseded = true }

-- ---- nodes

abbrev node : ℕ → NodeKind → Node
node index kind =
    record { index = index; name = []; reference = []; optional = false; start_delay = 0; input = Null; kind = kind }

-- 0 SIMPLE, 1 SIMPLE
abbrev order : List Node
order = node 0 Simple ∷ node 1 Simple ∷ []

-- 0 FORK_JOIN of two branches, 3 JOIN
abbrev forked : Branch → Branch → List Node
forked b c = node 0 (Fork (b ∷ c ∷ [])) ∷ node 3 (Join []) ∷ []

-- 0 DO_WHILE of 1 SIMPLE, 2 SIMPLE
abbrev looped : List Node
looped = node 0 (Loop (Number (pos 3)) (node 1 Simple ∷ [])) ∷ node 2 Simple ∷ []

-- 0 SUB_WORKFLOW, 1 SET_VARIABLE, 2 HUMAN, 3 WAIT, 4 TERMINATE
abbrev plain_kinds : List Node
plain_kinds = node 0 (SubFlow [] None) ∷ node 1 SetVariable ∷ node 2 Human ∷ node 3 Wait ∷ node 4 Terminate ∷ []

-- 0 DO_WHILE of nothing
abbrev empty_body : List Node
empty_body = node 0 (Loop (Number (pos 3)) []) ∷ []

-- ---- rows

-- the attempts of a flow, and what it asks for next
abbrev Row : Type 0
Row = List Seen × Next

abbrev asked : List Node → List Row → List Next
asked nodes rows = map (λ (r : Row). next_step r.0 nodes) rows

abbrev wanted : List Row → List Next
wanted rows = map (λ (r : Row). r.1) rows

-- where two ways to ask are one
each_same : (g h : List Seen → Next) → ((f : List Seen) → g f ≡ h f) → (rows : List Row) → map (λ (r : Row). g r.0) rows ≡ map (λ (r : Row). h r.0) rows
each_same g h same [] = refl
each_same g h same (r ∷ rest) = rw (same r.0, each_same g h same rest) refl

abbrev order_rows : List Row
order_rows =
    ([], Schedule 0 0) ∷
    ((plain 0 Scheduled ∷ []), Waits) ∷
    ((plain 0 InProgress ∷ []), Waits) ∷
    ((plain 0 Completed ∷ []), Schedule 1 0) ∷
    ((plain 0 Skipped ∷ []), Schedule 1 0) ∷
    ((plain 0 CompletedWithErrors ∷ []), Schedule 1 0) ∷
    ((plain 0 Failed ∷ []), Waits) ∷
    ((plain 0 FailedWithTerminalError ∷ []), Waits) ∷
    ((plain 0 TimedOut ∷ []), Waits) ∷
    ((plain 0 Canceled ∷ []), Waits) ∷
    ((plain 0 Failed ∷ plain 0 Scheduled ∷ []), Waits) ∷
    ((plain 0 Failed ∷ plain 0 Completed ∷ []), Schedule 1 0) ∷
    ((plain 0 Completed ∷ plain 0 Failed ∷ []), Waits) ∷
    ((gone (plain 0 Completed) ∷ []), Schedule 0 0) ∷
    ((plain 0 Completed ∷ gone (plain 0 Failed) ∷ []), Schedule 1 0) ∷
    ((gone (plain 0 Failed) ∷ plain 0 Completed ∷ []), Schedule 1 0) ∷
    ((tried 0 1 Completed ∷ []), Schedule 0 0) ∷
    ((plain 0 Completed ∷ plain 1 InProgress ∷ []), Waits) ∷
    ((plain 0 Completed ∷ plain 1 Completed ∷ []), AllDone) ∷ []

pub order_goes : asked order order_rows ≡ wanted order_rows
unfolding last_of
order_goes = refl

abbrev plain_kinds_rows : List Row
plain_kinds_rows =
    ([], Schedule 0 0) ∷
    ((plain 0 Completed ∷ []), Schedule 1 0) ∷
    ((plain 0 Completed ∷ plain 1 Completed ∷ []), Schedule 2 0) ∷
    ((plain 0 Completed ∷ plain 1 Completed ∷ plain 2 Completed ∷ []), Schedule 3 0) ∷
    ((plain 0 Completed ∷ plain 1 Completed ∷ plain 2 Completed ∷ plain 3 Completed ∷ []), Schedule 4 0) ∷
    ((plain 0 Completed ∷ plain 1 Completed ∷ plain 2 Completed ∷ plain 3 Completed ∷ plain 4 Completed ∷ []), AllDone) ∷ []

pub plain_kinds_goes : asked plain_kinds plain_kinds_rows ≡ wanted plain_kinds_rows
unfolding last_of
plain_kinds_goes = refl

abbrev looped_rows : List Row
looped_rows =
    ([], Schedule 0 0) ∷
    ((turning 0 1 InProgress ∷ []), Schedule 1 1) ∷
    ((turning 0 1 InProgress ∷ plain 1 Completed ∷ []), Schedule 1 1) ∷
    ((turning 0 1 InProgress ∷ tried 1 1 Scheduled ∷ []), Waits) ∷
    ((turning 0 1 InProgress ∷ tried 1 1 Failed ∷ []), Waits) ∷
    ((turning 0 1 InProgress ∷ tried 1 1 Completed ∷ []), Turns 0 0) ∷
    ((turning 0 2 InProgress ∷ tried 1 1 Completed ∷ []), Schedule 1 2) ∷
    ((turning 0 2 Completed ∷ tried 1 1 Completed ∷ tried 1 2 Completed ∷ []), Schedule 2 0) ∷
    ((plain 0 FailedWithTerminalError ∷ []), Waits) ∷ []

abbrev looped_asks : List Seen → Next
looped_asks f = or_then (loop_next 0 0 (mark_of (last_of f 0 0)) (next_of_nodes f (turn_of (last_of f 0 0)) AllDone (node 1 Simple ∷ []))) (or_then (plain_next 2 0 (mark_of (last_of f 2 0))) AllDone)

looped_next : (f : List Seen) → next_step f looped ≡ looped_asks f
looped_next f = ap (λ step. or_then step (or_then (plain_next 2 0 (mark_of (last_of f 2 0))) AllDone)) (next_loop f 0 AllDone 0 (Number (pos 3)) (node 1 Simple ∷ []))

looped_by_list : map (λ (r : Row). looped_asks r.0) looped_rows ≡ wanted looped_rows
unfolding last_of
looped_by_list = refl

pub looped_goes : asked looped looped_rows ≡ wanted looped_rows
looped_goes = each_same (λ f. next_step f looped) looped_asks looped_next looped_rows ∙ looped_by_list

abbrev empty_body_rows : List Row
empty_body_rows =
    ((turning 0 1 InProgress ∷ []), Turns 0 0) ∷ []

abbrev empty_body_asks : List Seen → Next
empty_body_asks f = or_then (loop_next 0 0 (mark_of (last_of f 0 0)) (next_of_nodes f (turn_of (last_of f 0 0)) AllDone ([]))) (AllDone)

empty_body_next : (f : List Seen) → next_step f empty_body ≡ empty_body_asks f
empty_body_next f = ap (λ step. or_then step (AllDone)) (next_loop f 0 AllDone 0 (Number (pos 3)) ([]))

empty_body_by_list : map (λ (r : Row). empty_body_asks r.0) empty_body_rows ≡ wanted empty_body_rows
unfolding last_of
empty_body_by_list = refl

pub empty_body_goes : asked empty_body empty_body_rows ≡ wanted empty_body_rows
empty_body_goes = each_same (λ f. next_step f empty_body) empty_body_asks empty_body_next empty_body_rows ∙ empty_body_by_list

abbrev forked_rows : List Row
forked_rows =
    ([], Schedule 0 0) ∷
    ((plain 0 InProgress ∷ []), Waits) ∷
    ((plain 0 Completed ∷ []), Schedule 3 0) ∷
    ((plain 0 Completed ∷ plain 3 InProgress ∷ []), Schedule 1 0) ∷
    ((plain 0 Completed ∷ plain 3 InProgress ∷ plain 1 Scheduled ∷ []), Schedule 2 0) ∷
    ((plain 0 Completed ∷ plain 3 InProgress ∷ plain 1 Failed ∷ []), Schedule 2 0) ∷
    ((plain 0 Completed ∷ plain 3 InProgress ∷ plain 1 Scheduled ∷ plain 2 Scheduled ∷ []), Waits) ∷
    ((plain 0 Completed ∷ plain 3 InProgress ∷ plain 1 Completed ∷ plain 2 InProgress ∷ []), Waits) ∷
    ((plain 0 Completed ∷ plain 3 InProgress ∷ plain 1 Failed ∷ plain 2 Completed ∷ []), Waits) ∷
    ((plain 0 Completed ∷ plain 3 InProgress ∷ plain 1 Completed ∷ plain 2 Failed ∷ plain 2 Scheduled ∷ []), Waits) ∷
    ((plain 0 Completed ∷ plain 3 InProgress ∷ plain 1 Completed ∷ []), Schedule 2 0) ∷
    ((plain 0 Completed ∷ plain 3 InProgress ∷ plain 1 Completed ∷ plain 2 Completed ∷ []), Joins 3 0) ∷
    ((plain 0 Completed ∷ plain 3 InProgress ∷ plain 1 CompletedWithErrors ∷ plain 2 Skipped ∷ []), Joins 3 0) ∷
    ((plain 0 Completed ∷ plain 3 InProgress ∷ plain 1 Completed ∷ gone (plain 1 Completed) ∷ plain 2 Completed ∷ []), Joins 3 0) ∷
    ((plain 0 Completed ∷ plain 3 Failed ∷ plain 1 Completed ∷ plain 2 Completed ∷ []), Waits) ∷
    ((plain 0 Completed ∷ plain 3 Completed ∷ []), AllDone) ∷ []

abbrev forked_asks : List Seen → Next
forked_asks f =
    or_then (plain_next 0 0 (mark_of (last_of f 0 0)))
    (or_then (join_next 3 0 (mark_of (last_of f 3 0)) (beside (next_of_nodes f 0 AllDone (node 1 Simple ∷ [])) (beside (next_of_nodes f 0 AllDone (node 2 Simple ∷ [])) AllDone))) AllDone)

forked_next : (b c : Branch) → (out-Branch b).nodes ≡ node 1 Simple ∷ [] → (out-Branch c).nodes ≡ node 2 Simple ∷ [] → (f : List Seen) → next_step f (forked b c) ≡ forked_asks f
forked_next b c first second f = rw (inside_fork f 0 (b ∷ c ∷ []), first, second) refl

forked_by_list : map (λ (r : Row). forked_asks r.0) forked_rows ≡ wanted forked_rows
unfolding last_of
forked_by_list = refl

pub forked_goes : (b c : Branch) → (out-Branch b).nodes ≡ node 1 Simple ∷ [] → (out-Branch c).nodes ≡ node 2 Simple ∷ [] → asked (forked b c) forked_rows ≡ wanted forked_rows
forked_goes b c first second = each_same (λ f. next_step f (forked b c)) forked_asks (forked_next b c first second) forked_rows ∙ forked_by_list
