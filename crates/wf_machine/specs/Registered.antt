-- What is registered: how it is found, and how it changes. Tasks stand by name, workflows by name and then by version.
use Rattle.std.specs.Prelude.{ℕ, ◌==◌, ◌&&◌, nat_le, Bool, if◌then◌else◌, List, [], ◌∷◌, Option, None, Some}
use Rattle.std.specs.List.{find}
use Rattle.std.specs.Cmp.Lexicographic.{slice_cmp}
use Rattle.std.specs.Ordering.{nat_cmp, match_ordering, ordering_then}
use Rattle.std.specs.declared.cmp.Ordering.{Ordering}
use Rattle.wf_machine.specs.declared.definition.FlowDef.{FlowDef}
use Rattle.wf_machine.specs.declared.definition.TaskDef.{TaskDef}
use Rattle.wf_machine.specs.Text.{same_text}

-- ---- tasks

abbrev pub is_task_named : List ℕ → TaskDef → Bool
is_task_named name def = same_text def.name name

-- the registered task of that name
abbrev pub task_def_named : List ℕ → List TaskDef → Option TaskDef
task_def_named name defs = find (is_task_named name) defs

-- the list in the order of names, with the task in it in place of one of its name
abbrev pub with_task_def : TaskDef → List TaskDef → List TaskDef
with_task_def c [] = c ∷ []
with_task_def c (d ∷ ds) = match_ordering (slice_cmp nat_cmp c.name d.name) (c ∷ d ∷ ds) (c ∷ ds) (d ∷ with_task_def c ds)

-- of two of the same name the later counts
abbrev pub with_task_defs : List TaskDef → List TaskDef → List TaskDef
with_task_defs [] ds = ds
with_task_defs (c ∷ cs) ds = with_task_defs cs (with_task_def c ds)

-- the list without the first task of that name
abbrev pub without_task_def : List ℕ → List TaskDef → List TaskDef
without_task_def name [] = []
without_task_def name (d ∷ ds) = if is_task_named name d then ds else d ∷ without_task_def name ds

-- ---- workflows

abbrev pub is_named : List ℕ → FlowDef → Bool
is_named name def = same_text def.name name

abbrev pub is_version : List ℕ → ℕ → FlowDef → Bool
is_version name version def = is_named name def && (def.version == version)

-- the definition of that name and version
abbrev pub flow_def_at : List ℕ → ℕ → List FlowDef → Option FlowDef
flow_def_at name version defs = find (is_version name version) defs

-- the one of the greater version, the first of two that have the same
abbrev pub greater_version : Option FlowDef → Option FlowDef → Option FlowDef
greater_version None d = d
greater_version (Some c) None = Some c
greater_version (Some c) (Some d) = if nat_le d.version c.version then Some c else Some d

-- the definition of that name with the greatest version
abbrev pub newest_flow_def : List ℕ → List FlowDef → Option FlowDef
newest_flow_def name [] = None
newest_flow_def name (d ∷ ds) = greater_version (if is_named name d then Some d else None) (newest_flow_def name ds)

-- by name, then by version
abbrev pub definition_order : FlowDef → FlowDef → Ordering
definition_order c d = ordering_then (slice_cmp nat_cmp c.name d.name) (nat_cmp c.version d.version)

-- the list in that order, with the definition in it in place of one of its name and version
abbrev pub with_flow_def : FlowDef → List FlowDef → List FlowDef
with_flow_def c [] = c ∷ []
with_flow_def c (d ∷ ds) = match_ordering (definition_order c d) (c ∷ d ∷ ds) (c ∷ ds) (d ∷ with_flow_def c ds)

-- the definition that a start names: without a version the greatest
abbrev pub flow_def_for : List ℕ → Option ℕ → List FlowDef → Option FlowDef
flow_def_for name None defs = newest_flow_def name defs
flow_def_for name (Some version) defs = flow_def_at name version defs

-- of two of the same name and version the later counts
abbrev pub with_flow_defs : List FlowDef → List FlowDef → List FlowDef
with_flow_defs [] ds = ds
with_flow_defs (c ∷ cs) ds = with_flow_defs cs (with_flow_def c ds)

-- the list without the first definition of that name and version
abbrev pub without_flow_def : List ℕ → ℕ → List FlowDef → List FlowDef
without_flow_def name version [] = []
without_flow_def name version (d ∷ ds) = if is_version name version d then ds else d ∷ without_flow_def name version ds
