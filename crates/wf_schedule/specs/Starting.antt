-- What is done where a filled input is too large, and how long a WAIT waits.
use Rattle.std.specs.Prelude.{ℕ, nat_le, if◌then◌else◌, List, [], length, ◌++◌, codes, Option, None, Some, option_map}
use Rattle.std.specs.Option.{option_map_or}
use Rattle.wf_doc.specs.declared.doc.Doc.{Doc}
use Rattle.wf_doc.specs.declared.doc.Doc.TheOpen.{Doc-F}
use Rattle.wf_doc.specs.declared.doc.Doc.TheViews.{out-Doc}
use Rattle.wf_doc.specs.Doc.{field}
use Rattle.wf_wire.specs.declared.limits.Limits.{Limits}
use Rattle.wf_machine.specs.declared.definition.Node.{Node}
use Rattle.wf_machine.specs.declared.definition.NodeKind.{NodeKind, Simple}
use Rattle.wf_machine.specs.declared.definition.TaskDef.{TaskDef}
use Rattle.wf_machine.specs.Registered.{task_def_named}
use Rattle.wf_machine.specs.State.{empty_table}
use Rattle.wf_time.specs.Durations.{duration}
use Rattle.wf_rules.specs.declared.acting.Act.{Act}
use Rattle.wf_rules.specs.Sight.{Sight, Scene}
use Rattle.wf_rules.specs.Scheduling.{fails}

-- ---- an input that is too large

-- the flow fails for want of a place, or because the document is too large
abbrev pub no_room : Limits → Sight → List Act
no_room limits s =
    if nat_le limits.attempts (length s.attempts) then fails (codes "attempt limit") None
    else fails (codes "document limit") (Some empty_table)

-- a task that isn't registered is told before that
abbrev pub large_task : Limits → Sight → Node → Option TaskDef → List Act
large_task limits s node None = fails (codes "no task definition " ++ node.name) None
large_task limits s node (Some def) = no_room limits s

abbrev pub large_refused : Limits → Scene → Sight → Node → NodeKind → List Act
large_refused limits scene s node Simple = large_task limits s node (task_def_named node.name scene.task_defs)
large_refused limits scene s node kind = no_room limits s

-- ---- how long a WAIT waits

-- the seconds: Some None where there are none, None where it isn't a duration
abbrev pub delay_here : Doc-F Doc → Option (Option ℕ)
delay_here Doc-F.Null = Some None
delay_here (Doc-F.Text []) = Some None
delay_here (Doc-F.Text text) = option_map (λ seconds. Some seconds) (duration text)
delay_here d = None

-- what the input says
abbrev pub delay_told : Doc → Option (Option ℕ)
delay_told input = option_map_or (λ d. delay_here (out-Doc d)) (field (codes "duration") input) (Some None)
