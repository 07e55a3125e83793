-- The rules of task definitions. Each gives the first place that breaks it: a field, in the order of the fields, or
-- empty for the document.
use Rattle.std.specs.Prelude.{ℕ, List, [], ◌∷◌, codes, Option, is_some}
use Rattle.std.specs.Option.{option_or}
use Rattle.wf_doc.specs.declared.doc.Doc.{Doc}
use Rattle.wf_doc.specs.Doc.{as_table}
use Rattle.wf_defs.specs.declared.faults.DefFault.{DefFault}
use Rattle.wf_fields.specs.declared.fields.Form.TheVariants.{ATable}
use Rattle.wf_defs.specs.Faults.{first_broken, fault_at}
use Rattle.wf_fields.specs.Fields.{is_absent_or, is_number, is_one_of, first_misnumbered, first_misformed, text_in, unless}
use Rattle.wf_defs.specs.Names.{is_name}

-- a definition is a table
abbrev pub table_rule : Doc → Option (List ℕ)
table_rule d = unless (is_some (as_table d)) []

-- it has a name
abbrev pub name_rule : Doc → Option (List ℕ)
name_rule d = unless (is_name (text_in (codes "name") d)) (codes "name")

-- the number fields with their ranges: the bound of the rate has a rule of its own
abbrev pub task_numbers : List (List ℕ × ℕ × ℕ)
task_numbers =
    (codes "retryCount", 0, 2147483647)
    ∷ (codes "retryDelaySeconds", 0, 2147483647)
    ∷ (codes "backoffScaleFactor", 0, 2147483647)
    ∷ (codes "timeoutSeconds", 0, 2147483647)
    ∷ (codes "responseTimeoutSeconds", 0, 2147483647)
    ∷ (codes "pollTimeoutSeconds", 0, 2147483647)
    ∷ (codes "concurrentExecLimit", 0, 2147483647)
    ∷ (codes "rateLimitPerFrequency", 0, 9223372036854775807)
    ∷ (codes "rateLimitFrequencyInSeconds", 0, 2147483647)
    ∷ []

abbrev pub task_number_rule : Doc → Option (List ℕ)
task_number_rule d = first_misnumbered d task_numbers

abbrev pub retry_logics : List (List ℕ)
retry_logics = codes "FIXED" ∷ codes "LINEAR_BACKOFF" ∷ codes "EXPONENTIAL_BACKOFF" ∷ []

abbrev pub task_policies : List (List ℕ)
task_policies = codes "RETRY" ∷ codes "TIME_OUT_WF" ∷ codes "ALERT_ONLY" ∷ []

-- each choice is one of its texts
abbrev pub retry_logic_rule : Doc → Option (List ℕ)
retry_logic_rule d = unless (is_absent_or (is_one_of retry_logics) (codes "retryLogic") d) (codes "retryLogic")

abbrev pub task_policy_rule : Doc → Option (List ℕ)
task_policy_rule d = unless (is_absent_or (is_one_of task_policies) (codes "timeoutPolicy") d) (codes "timeoutPolicy")

abbrev pub task_choice_rule : Doc → Option (List ℕ)
task_choice_rule d = option_or (retry_logic_rule d) (task_policy_rule d)

abbrev pub task_form_rule : Doc → Option (List ℕ)
task_form_rule d = first_misformed d ((codes "inputTemplate", ATable) ∷ [])

-- the rate is at most 1000
abbrev pub rate_rule : Doc → Option (List ℕ)
rate_rule d = unless (is_absent_or (is_number 0 1000) (codes "rateLimitPerFrequency") d) (codes "rateLimitPerFrequency")

-- the first broken rule of a task definition
abbrev pub broken_task_rule : Doc → Option (ℕ × List ℕ)
broken_task_rule d =
    first_broken
    ((1, table_rule d)
    ∷ (2, name_rule d)
    ∷ (3, task_number_rule d)
    ∷ (4, task_choice_rule d)
    ∷ (5, task_form_rule d)
    ∷ (6, rate_rule d)
    ∷ [])

-- the first broken rule, with its place
abbrev pub task_rule : Doc → Option DefFault
task_rule d = fault_at [] (broken_task_rule d)
