-- Words of the laws on marks and next steps.
use Rattle.std.specs.Prelude.{◌≡◌, ℕ, Bool, true, false, List, [], ◌∷◌}
use Rattle.wf_machine.specs.declared.definition.Branch.{Branch, out-Branch}
use Rattle.wf_machine.specs.declared.definition.Node.{Node}
use Rattle.wf_machine.specs.declared.walking.Mark.TheVariants.{Done}
use Rattle.wf_machine.specs.declared.walking.Next.{Next}
use Rattle.wf_machine.specs.declared.walking.Next.TheVariants.{Waits, Done as AllDone}
use Rattle.wf_machine.specs.Sight.{Seen}
use Rattle.wf_machine.specs.Marks.{next_inside, next_of_nodes, node_mark}

-- the node is done in that iteration
abbrev pub IsDone : List Seen → ℕ → Node → Type 0
IsDone f i n = node_mark f i n.index n.kind ≡ Done

-- what the branches of the last of these nodes ask for, which a JOIN after them waits for
abbrev pub next_before : List Seen → ℕ → Next → List Node → Next
next_before f i behind [] = behind
next_before f i behind (n ∷ rest) = next_before f i (next_inside f i n.kind) rest

-- what a branch asks for
abbrev pub next_of_branch : List Seen → ℕ → Branch → Next
next_of_branch f i b = next_of_nodes f i AllDone (out-Branch b).nodes

-- there is something to be done now
abbrev pub can_be_taken : Next → Bool
can_be_taken AllDone = false
can_be_taken Waits = false
can_be_taken _ = true
