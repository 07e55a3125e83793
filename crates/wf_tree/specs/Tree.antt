-- What a SWITCH and a DO_WHILE ask for, by the lists that they hold.
use Rattle.std.specs.Prelude.{ℕ, List}
use Rattle.wf_machine.specs.declared.definition.Node.{Node}
use Rattle.wf_machine.specs.declared.definition.Cases.{Cases, out-Cases}
use Rattle.wf_machine.specs.declared.walking.Mark.{Mark}
use Rattle.wf_machine.specs.declared.walking.Next.{Next}
use Rattle.wf_machine.specs.declared.walking.Next.TheVariants.{Done as AllDone}
use Rattle.wf_machine.specs.Sight.{Seen}
use Rattle.wf_machine.specs.Marks.{last_of, mark_of, turn_of, choice_of, loop_next, switch_mark, switch_next, next_of_cases, next_of_nodes}

-- what the list that a SWITCH chose asks for
abbrev pub next_of_chosen : List Seen → ℕ → ℕ → Cases → Next
next_of_chosen f i index choice =
    next_of_cases f i (choice_of (last_of f index i)) (next_of_nodes f i AllDone (out-Cases choice).otherwise) (out-Cases choice).cases

abbrev pub next_of_switch : List Seen → ℕ → ℕ → Cases → Next
next_of_switch f i index choice = switch_next index i (mark_of (last_of f index i)) (next_of_chosen f i index choice)

abbrev pub next_of_loop : List Seen → ℕ → ℕ → List Node → Next
next_of_loop f i index body = loop_next index i (mark_of (last_of f index i)) (next_of_nodes f (turn_of (last_of f index i)) AllDone body)

abbrev pub mark_of_switch : List Seen → ℕ → ℕ → Cases → Mark
mark_of_switch f i index choice = switch_mark (mark_of (last_of f index i)) (next_of_chosen f i index choice)
