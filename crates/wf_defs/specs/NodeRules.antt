-- The rules of a node. Each gives the first place inside the node that breaks it, in the order of the fields, or empty
-- for the node itself. A rule that speaks of one type holds of all others.
use Rattle.std.specs.Prelude.{ℕ, pos, ◌-◌, ◌&&◌, ◌||◌, ◌==◌, nat_lt, not, Bool, true, false, if◌then◌else◌, List, [], ◌∷◌, ◌++◌, length, map, codes, slice_get, Option, None, is_some, option_and_then, unwrap_or}
use Rattle.std.specs.List.{find, list_all, count_by}
use Rattle.std.specs.Option.{option_map_or, option_or}
use Rattle.wf_doc.specs.declared.doc.Doc.{Doc}
use Rattle.wf_doc.specs.declared.doc.Doc.TheOpen.{Doc-F}
use Rattle.wf_doc.specs.declared.doc.Doc.TheViews.{out-Doc}
use Rattle.wf_doc.specs.Doc.{as_text, field}
use Rattle.wf_doc.specs.Fields.{keys}
use Rattle.wf_machine.specs.Text.{same_text}
use Rattle.wf_fields.specs.declared.fields.Form.{Form}
use Rattle.wf_fields.specs.declared.fields.Form.TheVariants.{Truth, AText, Texts, AList, Lists, ATable, Cases}
use Rattle.wf_defs.specs.Condition.{is_condition}
use Rattle.wf_defs.specs.Faults.{first_broken}
use Rattle.wf_fields.specs.Fields.{given, is_given, is_number, is_among, first_misnumbered, first_misformed, unless, text_in, items_of, items_in}
use Rattle.wf_defs.specs.Names.{is_name, is_reference}
use Rattle.wf_defs.specs.Nodes.{type_of, is_type, reference_of, entries_in, branches, body}
use Rattle.wf_defs.specs.TaskRules.{table_rule, name_rule}

-- the rule, of nodes of this type alone
abbrev pub of_type : List ℕ → Doc → Option (List ℕ) → Option (List ℕ)
of_type name node rule = if is_type name node then rule else None

-- ---- fields of any node

abbrev pub node_number_rule : Doc → Option (List ℕ)
node_number_rule node = first_misnumbered node ((codes "startDelay", 0, 2147483647) ∷ [])

-- the fields of a type with their forms
abbrev pub switch_forms : List (List ℕ × Form)
switch_forms = (codes "expression", AText) ∷ (codes "decisionCases", Cases) ∷ (codes "defaultCase", AList) ∷ []

abbrev pub loop_forms : List (List ℕ × Form)
loop_forms = (codes "loopCondition", AText) ∷ (codes "loopOver", AList) ∷ []

abbrev pub type_form_rule : Doc → Option (List ℕ)
type_form_rule node =
    if is_type (codes "SWITCH") node then first_misformed node switch_forms
    else if is_type (codes "FORK_JOIN") node then first_misformed node ((codes "forkTasks", Lists) ∷ [])
    else if is_type (codes "JOIN") node then first_misformed node ((codes "joinOn", Texts) ∷ [])
    else if is_type (codes "DO_WHILE") node then first_misformed node loop_forms
    else if is_type (codes "SUB_WORKFLOW") node then first_misformed node ((codes "subWorkflowParam", ATable) ∷ [])
    else None

-- the fields of any node, then those of its type
abbrev pub node_form_rule : Doc → Option (List ℕ)
node_form_rule node =
    option_or (first_misformed node ((codes "inputParameters", ATable) ∷ (codes "optional", Truth) ∷ [])) (type_form_rule node)

-- the reference is one, and no earlier node has it
abbrev pub reference_rule : List (List ℕ) → Doc → Option (List ℕ)
reference_rule earlier node =
    unless (is_reference (reference_of node) && not (is_among (reference_of node) earlier)) (codes "taskReferenceName")

abbrev pub types : List (List ℕ)
types =
    codes "SIMPLE"
    ∷ codes "SWITCH"
    ∷ codes "FORK_JOIN"
    ∷ codes "JOIN"
    ∷ codes "DO_WHILE"
    ∷ codes "SUB_WORKFLOW"
    ∷ codes "SET_VARIABLE"
    ∷ codes "WAIT"
    ∷ codes "HUMAN"
    ∷ codes "TERMINATE"
    ∷ []

abbrev pub type_rule : Doc → Option (List ℕ)
type_rule node = unless (is_among (type_of node) types) (codes "type")

-- ---- SWITCH

abbrev pub parameter : List ℕ → Doc → Option Doc
parameter key node = option_and_then (field key) (given (codes "inputParameters") node)

-- the text is a key of the node's `inputParameters`
abbrev pub has_parameter : Doc → Doc → Bool
has_parameter node v = option_map_or (λ key. is_some (parameter key node)) (as_text v) false

abbrev pub evaluator_rule : Doc → Option (List ℕ)
evaluator_rule node = unless (same_text (text_in (codes "evaluatorType") node) (codes "value-param")) (codes "evaluatorType")

abbrev pub expression_rule : Doc → Option (List ℕ)
expression_rule node = unless (is_given (has_parameter node) (codes "expression") node) (codes "expression")

abbrev pub switch_rule : Doc → Option (List ℕ)
switch_rule node = of_type (codes "SWITCH") node (option_or (evaluator_rule node) (expression_rule node))

-- ---- FORK_JOIN and JOIN

abbrev pub has_items : Doc → Bool
has_items d = not (length (items_of d) == 0)

-- there is a branch, and none is empty
abbrev pub has_branches : Doc → Bool
has_branches node = not (length (branches node) == 0) && list_all has_items (branches node)

abbrev pub is_node_of : List ℕ → Option Doc → Bool
is_node_of name node = option_map_or (is_type name) node false

abbrev pub fork_rule : Doc → Option Doc → Option (List ℕ)
fork_rule node after =
    of_type (codes "FORK_JOIN") node
    (option_or (unless (has_branches node) (codes "forkTasks")) (unless (is_node_of (codes "JOIN") after) []))

abbrev pub join_rule : Doc → Option Doc → Option (List ℕ)
join_rule node before = of_type (codes "JOIN") node (unless (is_node_of (codes "FORK_JOIN") before) [])

-- a FORK_JOIN with its branches stands before a JOIN
abbrev pub pair_rule : Doc → Option Doc → Option Doc → Option (List ℕ)
pair_rule node before after = option_or (fork_rule node after) (join_rule node before)

-- the node at the end of a list
abbrev pub last_item : List Doc → Option Doc
last_item items = slice_get items (length items - 1)

-- the reference of the last node of a branch
abbrev pub last_reference : Doc → List ℕ
last_reference branch = option_map_or reference_of (last_item (items_of branch)) []

-- the branches of a FORK_JOIN, none of another node
abbrev pub fork_branches : Doc → List Doc
fork_branches node = if is_type (codes "FORK_JOIN") node then branches node else []

abbrev pub branches_before : Option Doc → List Doc
branches_before before = option_map_or fork_branches before []

-- the references of the last nodes of its branches, where the node before is a FORK_JOIN
abbrev pub last_references : Option Doc → List (List ℕ)
last_references before = map last_reference (branches_before before)

abbrev pub text_of : Doc → List ℕ
text_of d = unwrap_or (as_text d) []

-- the references that a JOIN names
abbrev pub joined : Doc → List (List ℕ)
joined node = map text_of (items_in (codes "joinOn") node)

abbrev pub is_once : List (List ℕ) → List ℕ → Bool
is_once words w = count_by (same_text w) words == 1

-- each of these words stands there exactly once, and nothing else does
abbrev pub holds_exactly : List (List ℕ) → List (List ℕ) → Bool
holds_exactly words held = list_all (is_once held) words && list_all (λ w. is_among w words) held

-- nothing is joined by name, or the ends of all branches are
abbrev pub joins_all : Doc → Option Doc → Bool
joins_all node before = (length (joined node) == 0) || holds_exactly (last_references before) (joined node)

abbrev pub joined_rule : Doc → Option Doc → Option (List ℕ)
joined_rule node before = of_type (codes "JOIN") node (unless (joins_all node before) (codes "joinOn"))

-- ---- DO_WHILE

abbrev pub condition_rule : Doc → Option (List ℕ)
condition_rule node =
    unless (is_condition (reference_of node) (keys (entries_in (codes "inputParameters") node)) (text_in (codes "loopCondition") node))
    (codes "loopCondition")

abbrev pub body_rule : Doc → Option (List ℕ)
body_rule node = unless (not (length (body node) == 0)) (codes "loopOver")

-- its condition, its body, and that it stands in no other DO_WHILE
abbrev pub loop_rule : Doc → Bool → Option (List ℕ)
loop_rule node looped =
    of_type (codes "DO_WHILE") node (option_or (option_or (condition_rule node) (body_rule node)) (unless (not looped) []))

-- ---- SUB_WORKFLOW

-- the value of a field of the table that stands in a field
abbrev pub nested : List ℕ → List ℕ → Doc → Option Doc
nested outer key d = option_and_then (given key) (given outer d)

abbrev pub sub_name : Doc → List ℕ
sub_name node = unwrap_or (option_and_then as_text (nested (codes "subWorkflowParam") (codes "name") node)) []

abbrev pub sub_name_rule : Doc → Option (List ℕ)
sub_name_rule node = unless (is_name (sub_name node)) (codes "subWorkflowParam.name")

abbrev pub sub_version_rule : Doc → Option (List ℕ)
sub_version_rule node =
    unless (option_map_or (is_number 1 2147483647) (nested (codes "subWorkflowParam") (codes "version") node) true)
    (codes "subWorkflowParam.version")

abbrev pub sub_flow_rule : Doc → Option (List ℕ)
sub_flow_rule node = of_type (codes "SUB_WORKFLOW") node (option_or (sub_name_rule node) (sub_version_rule node))

-- ---- left-out features

abbrev is_empty_here : Doc-F Doc → Bool
is_empty_here Doc-F.Null = true
is_empty_here (Doc-F.Bool b) = not b
is_empty_here (Doc-F.Int (pos n)) = n == 0
is_empty_here (Doc-F.Int z) = false
is_empty_here (Doc-F.Text t) = length t == 0
is_empty_here (Doc-F.List ds) = length ds == 0
is_empty_here (Doc-F.Table es) = length es == 0

-- null, false, 0, an empty text, list or table
abbrev pub is_empty_value : Doc → Bool
is_empty_value v = is_empty_here (out-Doc v)

abbrev pub says_nothing : Option Doc → Bool
says_nothing v = option_map_or is_empty_value v true

-- the first of these fields that says something
abbrev pub first_used : Doc → List (List ℕ) → Option (List ℕ)
first_used d names = find (λ key. not (says_nothing (given key d))) names

abbrev pub left_out_of_nodes : List (List ℕ)
left_out_of_nodes =
    codes "dynamicTaskNameParam"
    ∷ codes "dynamicForkTasksParam"
    ∷ codes "dynamicForkTasksInputParamName"
    ∷ codes "dynamicForkJoinTasksParam"
    ∷ codes "sink"
    ∷ codes "asyncComplete"
    ∷ codes "scriptExpression"
    ∷ codes "caseExpression"
    ∷ codes "caseValueParam"
    ∷ codes "cacheConfig"
    ∷ codes "onStateChange"
    ∷ codes "retryCount"
    ∷ []

-- a field of the table in a field says nothing
abbrev pub is_unused : List ℕ → List ℕ → Doc → Bool
is_unused outer key node = says_nothing (nested outer key node)

abbrev pub until_rule : Doc → Option (List ℕ)
until_rule node =
    of_type (codes "WAIT") node (unless (is_unused (codes "inputParameters") (codes "until") node) (codes "inputParameters.until"))

abbrev pub domain_rule : Doc → Option (List ℕ)
domain_rule node =
    unless (is_unused (codes "subWorkflowParam") (codes "taskToDomain") node) (codes "subWorkflowParam.taskToDomain")

abbrev pub inline_rule : Doc → Option (List ℕ)
inline_rule node =
    unless (is_unused (codes "subWorkflowParam") (codes "workflowDefinition") node) (codes "subWorkflowParam.workflowDefinition")

abbrev pub idempotency_rule : Doc → Option (List ℕ)
idempotency_rule node =
    unless (is_unused (codes "subWorkflowParam") (codes "idempotencyKey") node) (codes "subWorkflowParam.idempotencyKey")

abbrev pub sub_left_out_rule : Doc → Option (List ℕ)
sub_left_out_rule node =
    of_type (codes "SUB_WORKFLOW") node (option_or (option_or (domain_rule node) (inline_rule node)) (idempotency_rule node))

-- no key of a left-out feature says something
abbrev pub left_out_rule : Doc → Option (List ℕ)
left_out_rule node = option_or (option_or (first_used node left_out_of_nodes) (until_rule node)) (sub_left_out_rule node)

-- ---- all rules

-- there is room for the node behind the earlier ones
abbrev pub room_rule : ℕ → List (List ℕ) → Option (List ℕ)
room_rule most earlier = unless (nat_lt (length earlier) most) []

-- the rules of the fields that any node has
abbrev pub field_rules : List (List ℕ) → Doc → List (ℕ × Option (List ℕ))
field_rules earlier node =
    (1, table_rule node)
    ∷ (2, name_rule node)
    ∷ (3, node_number_rule node)
    ∷ (5, node_form_rule node)
    ∷ (7, reference_rule earlier node)
    ∷ (8, type_rule node)
    ∷ []

-- the rules of the types, and those that hold of all types
abbrev pub type_rules : ℕ → List (List ℕ) → Doc → Option Doc → Option Doc → Bool → List (ℕ × Option (List ℕ))
type_rules most earlier node before after looped =
    (9, switch_rule node)
    ∷ (10, pair_rule node before after)
    ∷ (11, joined_rule node before)
    ∷ (12, loop_rule node looped)
    ∷ (13, sub_flow_rule node)
    ∷ (14, left_out_rule node)
    ∷ (15, room_rule most earlier)
    ∷ []

-- The first broken rule of a node, of which there may be `most`. `earlier` are the references of the nodes before it,
-- `before` and `after` its neighbours in its list.
unfoldable pub broken_node_rule : ℕ → List (List ℕ) → Doc → Option Doc → Option Doc → Bool → Option (ℕ × List ℕ)
broken_node_rule most earlier node before after looped =
    first_broken (field_rules earlier node ++ type_rules most earlier node before after looped)
