-- What `check` says of an input, and what it leaves.
use Rattle.std.specs.Prelude.{◌≡◌, ◌⊎◌, ℕ, Bool, suc, ◌<◌, ◌≤◌, nat_lt, if◌then◌else◌, List, [], ◌∷◌, ◌++◌, length, drop, codes, Option, None, Some, Result, Ok, Err}
use Rattle.std.specs.Fmt.{decimal}
use Rattle.std.specs.Option.{option_map_or}
use Rattle.wf_doc.specs.declared.doc.Doc.{Doc}
use Rattle.wf_doc.specs.declared.scan.DocFault.{DocFault}
use Rattle.wf_doc.specs.declared.scan.DocFault.TheVariants as document
use Rattle.wf_doc.specs.Doc.{as_list}
use Rattle.wf_doc.specs.Read.{read}
use Rattle.wf_wire.specs.declared.limits.Limits.{Limits}
use Rattle.wf_defs.specs.declared.faults.DefFault.{DefFault}
use Rattle.wf_defs.specs.declared.faults.DefFault.TheVariants as definition
use Rattle.wf_defs.specs.FlowRules.{flow_rule}
use Rattle.wf_defs.specs.TaskRules.{task_rule}
use Rattle.wf_defs.specs.Several.{first_fault_in}
use Rattle.wf_commands.specs.declared.check.Verdict.{Verdict}
use Rattle.wf_commands.specs.declared.check.Verdict.TheVariants.{Valid, Unread, Broken}
use Rattle.wf_commands.specs.declared.status.Status.{Status}
use Rattle.wf_commands.specs.declared.status.Status.TheVariants.{Done, NoMemory, ReadFault, WriteFault, TooLarge, Invalid}
use Rattle.wf_commands.specs.Inputs.{Told}
use Rattle.wf_commands.specs.Standard.{IsStandard}
use Rattle.wf_commands.specs.Written.{Appends, AppendsPart}

-- ---- the first fault

-- the first fault of a document: a list is one of task definitions, anything else a workflow of at most so many nodes
abbrev pub definition_fault : ℕ → Doc → Option DefFault
definition_fault most d = option_map_or (first_fault_in task_rule 0) (as_list d) (flow_rule most d)

-- ---- the verdict

abbrev pub verdict_on : Option DefFault → Verdict
verdict_on None = Valid
verdict_on (Some fault) = Broken fault

abbrev pub verdict_of : ℕ → Result Doc DocFault → Verdict
verdict_of most (Ok d) = verdict_on (definition_fault most d)
verdict_of most (Err fault) = Unread fault

-- what is to be said of these bytes
abbrev pub verdict : Limits → List ℕ → Verdict
verdict limits bytes = verdict_of limits.nodes (read bytes limits.depth)

-- ---- what is written

abbrev pub document_code : DocFault → List ℕ
document_code document.Syntax = codes "SYNTAX"
document_code document.Fraction = codes "FRACTION"
document_code document.Range = codes "RANGE"
document_code document.TooDeep = codes "TOO_DEEP"
document_code document.NoMemory = codes "NO_MEMORY"

-- the rule by its number, and the place
abbrev pub rule_text : ℕ → List ℕ → List ℕ
rule_text rule place = codes "rule " ++ decimal rule ++ codes " at " ++ place

abbrev pub fault_text : DefFault → List ℕ
fault_text (definition.Rule rule place) = rule_text rule place
fault_text definition.NoMemory = codes "NO_MEMORY"

abbrev pub verdict_text : Verdict → List ℕ
verdict_text Valid = codes "ok"
verdict_text (Unread fault) = document_code fault
verdict_text (Broken fault) = fault_text fault

-- the text, and a line feed
abbrev pub line : Verdict → List ℕ
line v = verdict_text v ++ 10 ∷ []

abbrev pub verdict_status : Verdict → Status
verdict_status Valid = Done
verdict_status (Unread fault) = Invalid
verdict_status (Broken fault) = Invalid

-- ---- what a check leaves

-- what telling a verdict leaves
abbrev pub IsTold : Verdict → Option (List ℕ) → Option (List ℕ) → Status → Type 0
IsTold v old new Done = (verdict_status v ≡ Done) × Appends old new (line v)
IsTold v old new Invalid = (verdict_status v ≡ Invalid) × Appends old new (line v)
IsTold v old new WriteFault = AppendsPart old new [] (line v)
IsTold v old new NoMemory = Appends old new []
IsTold v old new status = ⊥

-- the input is within the limit, and was read to its end
abbrev pub IsRead : Limits → List ℕ → List ℕ → Type 0
IsRead limits input rest = (length input ≤ limits.body) × (rest ≡ [])

-- what a check leaves of the input and of the sink, where it ended with this status
abbrev pub IsChecked : Limits → List ℕ → List ℕ → Option (List ℕ) → Option (List ℕ) → Status → Type 0
IsChecked limits input rest old new Done = IsRead limits input rest × IsTold (verdict limits input) old new Done
IsChecked limits input rest old new Invalid = IsRead limits input rest × IsTold (verdict limits input) old new Invalid
IsChecked limits input rest old new WriteFault = IsRead limits input rest × IsTold (verdict limits input) old new WriteFault
IsChecked limits input rest old new (TooLarge at) =
    (at ≡ 0) × ((limits.body < length input) × ((rest ≡ drop (suc limits.body) input) × Appends old new []))
IsChecked limits input rest old new ReadFault = Appends old new []
IsChecked limits input rest old new NoMemory = Appends old new []
IsChecked limits input rest old new status = ⊥

-- the same, where the source tells its bytes
abbrev pub ChecksOver : Limits → Option (List ℕ) → Option (List ℕ) → Option (List ℕ) → Option (List ℕ) → Status → Type 0
ChecksOver limits left left' old new status = Told left left' (λ input rest. IsChecked limits input rest old new status)

-- under the standard limits
abbrev pub ChecksStandard : Option (List ℕ) → Option (List ℕ) → Option (List ℕ) → Option (List ℕ) → Status → Type 0
ChecksStandard left left' old new status = (limits : Limits) × (IsStandard limits × ChecksOver limits left left' old new status)

-- ---- where nothing fails

abbrev pub is_long : Limits → List ℕ → Bool
is_long limits input = nat_lt limits.body (length input)

-- the status that the input fixes
abbrev pub final_status : Limits → List ℕ → Status
final_status limits input = if is_long limits input then TooLarge 0 else verdict_status (verdict limits input)

-- the bytes that the input fixes
abbrev pub final_bytes : Limits → List ℕ → List ℕ
final_bytes limits input = if is_long limits input then [] else line (verdict limits input)

-- the input was answered, or memory was wanting
abbrev pub IsComplete : Limits → List ℕ → Option (List ℕ) → Option (List ℕ) → Status → Type 0
IsComplete limits input old new status =
    (status ≡ NoMemory) ⊎ ((status ≡ final_status limits input) × Appends old new (final_bytes limits input))

-- under the standard limits, where the source tells its bytes
abbrev pub CompletesStandard : Option (List ℕ) → Option (List ℕ) → Option (List ℕ) → Status → Type 0
CompletesStandard left old new status =
    (limits : Limits) × (IsStandard limits × ((input : List ℕ) → left ≡ Some input → IsComplete limits input old new status))
