-- Whole histories of the machine.
use Rattle.std.specs.Prelude.{ℕ, ◌+◌, List, [], ◌∷◌, map}
use Rattle.wf_wire.specs.declared.limits.Limits.{Limits}
use Rattle.wf_machine.specs.declared.calling.Reply.{Reply}
use Rattle.wf_steps.specs.declared.calling.Entry.{Entry}
use Rattle.wf_machine.specs.State.{Kept, State}
use Rattle.wf_steps.specs.Calls.{step}

-- the state after these entries, of which the first comes after that many
abbrev pub state_from : Limits → ℕ → State → List Entry → State
state_from limits before s [] = s
state_from limits before s (e ∷ rest) = state_from limits (before + 1) (step limits (before + 1) s e).state rest

-- the replies to these entries, in their order
abbrev pub replies_from : Limits → ℕ → State → List Entry → List Reply
replies_from limits before s [] = []
replies_from limits before s (e ∷ rest) =
    (step limits (before + 1) s e).reply ∷ replies_from limits (before + 1) (step limits (before + 1) s e).state rest

-- the state after a whole history
abbrev pub state_after : Limits → State → List Entry → State
state_after limits s history = state_from limits 0 s history

-- the replies of a whole history
abbrev pub replies_of : Limits → State → List Entry → List Reply
replies_of limits s history = replies_from limits 0 s history

-- ---- what is stored

-- the flow, without the place of the entry that changed it
abbrev pub unplaced : Kept → Kept
unplaced k = record k { revision = 0 }

-- the state without revisions: what is left of it where it is stored
abbrev pub stored : State → State
stored s = record s { defs_revision = 0; flows = map unplaced s.flows }
