-- The rules of workflow definitions: those of the definition's own table, then those of each node.
use Rattle.std.specs.Prelude.{ℕ, ◌==◌, not, List, [], ◌∷◌, ◌++◌, length, map, codes, Option, None}
use Rattle.std.specs.Option.{option_or}
use Rattle.wf_doc.specs.declared.doc.Doc.{Doc}
use Rattle.wf_defs.specs.declared.faults.DefFault.{DefFault}
use Rattle.wf_fields.specs.declared.fields.Form.{Form}
use Rattle.wf_fields.specs.declared.fields.Form.TheVariants.{Truth, AList, ATable}
use Rattle.wf_defs.specs.Faults.{first_broken, fault_at}
use Rattle.wf_fields.specs.Fields.{is_absent_or, is_one_of, first_misnumbered, first_misformed, items_in, unless}
use Rattle.wf_defs.specs.TaskRules.{table_rule, name_rule}
use Rattle.wf_defs.specs.Nodes.{Site, reference_of, all_sites}
use Rattle.wf_defs.specs.NodeRules.{first_used, broken_node_rule}

-- ---- the definition's table

abbrev pub flow_numbers : List (List ℕ × ℕ × ℕ)
flow_numbers =
    (codes "version", 1, 2147483647) ∷ (codes "schemaVersion", 2, 2) ∷ (codes "timeoutSeconds", 0, 2147483647) ∷ []

abbrev pub flow_number_rule : Doc → Option (List ℕ)
flow_number_rule d = first_misnumbered d flow_numbers

abbrev pub flow_policies : List (List ℕ)
flow_policies = codes "TIME_OUT_WF" ∷ codes "ALERT_ONLY" ∷ []

abbrev pub flow_choice_rule : Doc → Option (List ℕ)
flow_choice_rule d = unless (is_absent_or (is_one_of flow_policies) (codes "timeoutPolicy") d) (codes "timeoutPolicy")

abbrev pub flow_forms : List (List ℕ × Form)
flow_forms =
    (codes "restartable", Truth)
    ∷ (codes "inputTemplate", ATable)
    ∷ (codes "outputParameters", ATable)
    ∷ (codes "inputParameters", AList)
    ∷ (codes "tasks", AList)
    ∷ []

abbrev pub flow_form_rule : Doc → Option (List ℕ)
flow_form_rule d = first_misformed d flow_forms

-- there are tasks
abbrev pub tasks_rule : Doc → Option (List ℕ)
tasks_rule d = unless (not (length (items_in (codes "tasks") d) == 0)) (codes "tasks")

abbrev pub left_out_of_flows : List (List ℕ)
left_out_of_flows =
    codes "failureWorkflow"
    ∷ codes "variables"
    ∷ codes "inputSchema"
    ∷ codes "outputSchema"
    ∷ codes "rateLimitConfig"
    ∷ []

abbrev pub flow_left_out_rule : Doc → Option (List ℕ)
flow_left_out_rule d = first_used d left_out_of_flows

-- the first broken rule of the definition's table
unfoldable pub broken_flow_rule : Doc → Option (ℕ × List ℕ)
broken_flow_rule d =
    first_broken
    ((1, table_rule d)
    ∷ (2, name_rule d)
    ∷ (3, flow_number_rule d)
    ∷ (4, flow_choice_rule d)
    ∷ (5, flow_form_rule d)
    ∷ (6, tasks_rule d)
    ∷ (14, flow_left_out_rule d)
    ∷ [])

-- ---- the nodes

-- the fault of a node behind nodes of these references
abbrev pub site_fault : ℕ → List (List ℕ) → Site → Option DefFault
site_fault most earlier s = fault_at s.place (broken_node_rule most earlier s.node s.before s.after s.looped)

-- the first fault of nodes behind nodes of these references
abbrev pub first_fault : ℕ → List (List ℕ) → List Site → Option DefFault
first_fault most earlier [] = None
first_fault most earlier (s ∷ rest) =
    option_or (site_fault most earlier s) (first_fault most (earlier ++ reference_of s.node ∷ []) rest)

-- the references of nodes
abbrev pub references : List Site → List (List ℕ)
references sites = map (λ (s : Site). reference_of s.node) sites

-- the first broken rule of a document that is to be a definition of at most so many nodes, with its place
unfoldable pub flow_rule : ℕ → Doc → Option DefFault
flow_rule most d = option_or (fault_at [] (broken_flow_rule d)) (first_fault most [] (all_sites most d))
