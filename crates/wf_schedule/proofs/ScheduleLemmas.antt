-- What is scheduled, case by case.
use Rattle.std.proofs.Common.{◌≡◌, ◌∙◌, ap, sym, refl, ℕ, ℤ, ◌≤◌, Bool, true, false, nat_le, if◌then◌else◌, List, [], ◌∷◌, length, Option, None, Some, arith}
use Rattle.std.proofs.lemmas.Bool.Decides.{nat_tests}
use Rattle.std.specs.Prelude.{codes, option_map}
use Rattle.std.specs.Option.{option_map_or}
use Rattle.wf_doc.specs.declared.doc.Doc.{Doc}
use Rattle.wf_doc.specs.declared.doc.Doc.TheOpen.{Doc-F}
use Rattle.wf_doc.specs.declared.doc.Doc.TheViews.{out-Doc}
use Rattle.wf_doc.specs.Doc.{field}
use Rattle.wf_expr.specs.Filling.{text_of_any}
use Rattle.wf_wire.specs.declared.limits.Limits.{Limits}
use Rattle.wf_machine.specs.declared.definition.Cases.{Cases, Cases', out-Cases, outs-Cases'}
use Rattle.wf_machine.specs.declared.definition.Count.{Count}
use Rattle.wf_machine.specs.declared.definition.FlowDef.{FlowDef}
use Rattle.wf_machine.specs.declared.definition.Node.{Node}
use Rattle.wf_machine.specs.declared.definition.NodeKind.{NodeKind, Simple, Switch, Fork', Join, Loop', SubFlow, SetVariable, Wait, Human, Terminate}
use Rattle.wf_machine.specs.declared.definition.TaskDef.{TaskDef}
use Rattle.wf_machine.specs.Registered.{flow_def_for, task_def_named}
use Rattle.wf_machine.specs.Naming.{with_template}
use Rattle.wf_time.specs.Durations.{capped, duration, duration_in, seconds_in, words}
use Rattle.wf_rules.specs.declared.acting.Act.{Act}
use Rattle.wf_rules.specs.declared.acting.Act.TheVariants.{Variables}
use Rattle.wf_rules.specs.declared.acting.Begin.TheVariants.{Held, Over}
use Rattle.wf_rules.specs.declared.acting.NewAttempt.{NewAttempt}
use Rattle.wf_rules.specs.declared.acting.Outcome.TheVariants.{Completed}
use Rattle.wf_rules.specs.Sight.{Sight, Scene}
use Rattle.wf_rules.specs.Outputs.{choice_output, count_of, entries_of, is_too_large, with_all}
use Rattle.wf_rules.specs.Scheduling.{adding, adding_one, attempt_at, child_at, counted_at, end_by, failed_at, loop_at, named_end, schedule_kind, schedule_task, sub_flow_at, task_at, wait_at, wait_here}
use Rattle.wf_schedule.specs.Starting.{delay_here, delay_told, large_refused, large_task, no_room}
use Rattle.wf_schedule.proofs.GrowthLemmas.{large_stays}

-- ---- inputs of new attempts

counted_input : (node : Node) (i : ℕ) (count : Count) (input : Doc) → (counted_at node i count input).input ≡ input
counted_input node i count input = by_count (count_of count input) where
  by_count : (o : Option ℤ) → (option_map_or (λ n. loop_at node i input) o (failed_at node i (codes "bad loop count") input)).input ≡ input
  by_count None = refl
  by_count (Some n) = refl

waiting_input : (node : Node) (i : ℕ) (input : Doc) (x : Doc-F Doc) → (wait_here node i input x).input ≡ input
waiting_input node i input Doc-F.Null = refl
waiting_input node i input (Doc-F.Bool b) = refl
waiting_input node i input (Doc-F.Int z) = refl
waiting_input node i input (Doc-F.Text []) = refl
waiting_input node i input (Doc-F.Text (c ∷ cs)) = by_seconds (duration (c ∷ cs)) where
  by_seconds : (o : Option ℕ) → (option_map_or (λ seconds. attempt_at node i (Held (Some seconds)) input) o (failed_at node i (codes "bad duration") input)).input ≡ input
  by_seconds None = refl
  by_seconds (Some n) = refl
waiting_input node i input (Doc-F.List ds) = refl
waiting_input node i input (Doc-F.Table es) = refl

wait_input : (node : Node) (i : ℕ) (input : Doc) → (wait_at node i input).input ≡ input
wait_input node i input = by_field (field (codes "duration") input) where
  by_field : (o : Option Doc) → (option_map_or (λ d. wait_here node i input (out-Doc d)) o (attempt_at node i (Held None) input)).input ≡ input
  by_field None = refl
  by_field (Some d) = waiting_input node i input (out-Doc d)

child_input : (limits : Limits) (node : Node) (i : ℕ) (def : FlowDef) (input : Doc) → (child_at limits node i def input).input ≡ input
child_input limits node i def input = by_test (is_too_large limits (with_template def.template input)) _ _ refl refl where
  by_test : (t : Bool) (x y : NewAttempt) → x.input ≡ input → y.input ≡ input → (if t then x else y).input ≡ input
  by_test true x y e f = e
  by_test false x y e f = f

sub_flow_input : (limits : Limits) (s : Sight) (node : Node) (i : ℕ) (name : List ℕ) (o : Option FlowDef) (input : Doc) → (sub_flow_at limits s node i name o input).input ≡ input
sub_flow_input limits s node i name None input = refl
sub_flow_input limits s node i name (Some def) input = by_test (nat_le limits.nesting s.depth) _ _ refl (child_input limits node i def input) where
  by_test : (t : Bool) (x y : NewAttempt) → x.input ≡ input → y.input ≡ input → (if t then x else y).input ≡ input
  by_test true x y e f = e
  by_test false x y e f = f

-- ---- an input that is too large

large_adding : (limits : Limits) (s : Sight) (docs : List Doc) (before : List Act) (n : NewAttempt) (after : List Act) → is_too_large limits n.input ≡ true
    → adding limits s docs before n after ≡ no_room limits s
large_adding limits s docs before n after large = rw large refl

large_one : (limits : Limits) (s : Sight) (n : NewAttempt) (input : Doc) → n.input ≡ input → is_too_large limits input ≡ true → adding_one limits s n ≡ no_room limits s
large_one limits s n input is large = large_adding limits s [] [] n [] (ap (is_too_large limits) is ∙ large)

large_simple : (limits : Limits) (s : Sight) (node : Node) (i : ℕ) (o : Option TaskDef) (input : Doc) → is_too_large limits input ≡ true
    → schedule_task limits s node i o input ≡ large_task limits s node o
large_simple limits s node i None input large = refl
large_simple limits s node i (Some def) input large = large_adding limits s [] [] (task_at node i def input) [] (large_stays limits def.template input large)

pub large_kind : (limits : Limits) (scene : Scene) (s : Sight) (node : Node) (i : ℕ) (kind : NodeKind) (input : Doc) → is_too_large limits input ≡ true
    → schedule_kind limits scene s node i kind input ≡ large_refused limits scene s node kind
large_kind limits scene s node i Simple input large = large_simple limits s node i (task_def_named node.name scene.task_defs) input large
large_kind limits scene s node i (Switch (Cases' param n cases m nodes)) input large =
    large_one limits s (record (attempt_at node i (Over Completed) input) { output = choice_output (text_of_any (field param input)) }) input refl large
large_kind limits scene s node i (Fork' n branches) input large = large_one limits s (attempt_at node i (Over Completed) input) input refl large
large_kind limits scene s node i (Join references) input large = large_one limits s (attempt_at node i (Held None) input) input refl large
large_kind limits scene s node i (Loop' count n body) input large = large_one limits s (counted_at node i count input) input (counted_input node i count input) large
large_kind limits scene s node i (SubFlow name version) input large =
    large_one limits s (sub_flow_at limits s node i name (flow_def_for name version scene.flow_defs) input) input
    (sub_flow_input limits s node i name (flow_def_for name version scene.flow_defs) input) large
large_kind limits scene s node i SetVariable input large =
    let variables : Doc = with_all (entries_of input) s.variables in
    large_adding limits s (variables ∷ []) (Variables variables ∷ []) (attempt_at node i (Over Completed) input) [] large
large_kind limits scene s node i Wait input large = large_one limits s (wait_at node i input) input (wait_input node i input) large
large_kind limits scene s node i Human input large = large_one limits s (attempt_at node i (Held None) input) input refl large
large_kind limits scene s node i Terminate input large = large_adding limits s [] [] (attempt_at node i (Over Completed) input) (end_by input (named_end input)) large

-- ---- SWITCH

pub kind_switch : (limits : Limits) (scene : Scene) (s : Sight) (node : Node) (i : ℕ) (choice : Cases) (input : Doc) → schedule_kind limits scene s node i (Switch choice) input
    ≡ adding_one limits s (record (attempt_at node i (Over Completed) input) { output = choice_output (text_of_any (field (out-Cases choice).param input)) })
kind_switch limits scene s node i (Cases' param n cases m nodes) input =
    ap (λ p. adding_one limits s (record (attempt_at node i (Over Completed) input) { output = choice_output (text_of_any (field p input)) })) (sym (ap (λ c. c.param) (outs-Cases' param n cases m nodes)))

-- ---- WAIT

told_here : (node : Node) (i : ℕ) (input : Doc) (x : Doc-F Doc) → wait_here node i input x ≡ option_map_or (λ delay. attempt_at node i (Held delay) input) (delay_here x) (failed_at node i (codes "bad duration") input)
told_here node i input Doc-F.Null = refl
told_here node i input (Doc-F.Bool b) = refl
told_here node i input (Doc-F.Int z) = refl
told_here node i input (Doc-F.Text []) = refl
told_here node i input (Doc-F.Text (c ∷ cs)) = by_seconds (duration (c ∷ cs)) where
  by_seconds : (o : Option ℕ) → option_map_or (λ seconds. attempt_at node i (Held (Some seconds)) input) o (failed_at node i (codes "bad duration") input)
      ≡ option_map_or (λ delay. attempt_at node i (Held delay) input) (option_map (λ seconds. Some seconds) o) (failed_at node i (codes "bad duration") input)
  by_seconds None = refl
  by_seconds (Some n) = refl
told_here node i input (Doc-F.List ds) = refl
told_here node i input (Doc-F.Table es) = refl

pub wait_by_delay : (node : Node) (i : ℕ) (input : Doc) → wait_at node i input ≡ option_map_or (λ delay. attempt_at node i (Held delay) input) (delay_told input) (failed_at node i (codes "bad duration") input)
wait_by_delay node i input = by_field (field (codes "duration") input) where
  by_field : (o : Option Doc) → option_map_or (λ d. wait_here node i input (out-Doc d)) o (attempt_at node i (Held None) input)
      ≡ option_map_or (λ delay. attempt_at node i (Held delay) input) (option_map_or (λ d. delay_here (out-Doc d)) o (Some None)) (failed_at node i (codes "bad duration") input)
  by_field None = refl
  by_field (Some d) = told_here node i input (out-Doc d)

pub delay_of_text : (text : List ℕ) → (length text ≡ 0 → ⊥) → delay_here (Doc-F.Text text) ≡ option_map (λ seconds. Some seconds) (duration text)
delay_of_text [] some = absurd (some refl)
delay_of_text (c ∷ cs) some = refl

pub no_text : (text : List ℕ) → length text ≡ 0 → delay_here (Doc-F.Text text) ≡ Some None
no_text [] e = refl
no_text (c ∷ cs) e = absurd (omega (arith, e))

capped_short : (o : Option ℕ) (n : ℕ) → capped o ≡ Some n → n ≤ 2147483647
capped_short None n e = let no : ⊥ = cc in absurd no
capped_short (Some m) n e = by_test (nat_le m 2147483647) refl e where
  by_test : (t : Bool) → nat_le m 2147483647 ≡ t → (if t then Some m else None) ≡ Some n → n ≤ 2147483647
  by_test true is f = let same : m ≡ n = cc in let low : m ≤ 2147483647 = grind (arith, nat_tests) in omega (arith, same, low)
  by_test false is f = let no : ⊥ = cc in absurd no

short_in : (ws : List (List ℕ)) (n : ℕ) → duration_in ws ≡ Some n → n ≤ 2147483647
short_in [] n e = let no : ⊥ = cc in absurd no
short_in (w ∷ ws) n e = capped_short (seconds_in (w ∷ ws)) n e

pub duration_short : (text : List ℕ) (n : ℕ) → duration text ≡ Some n → n ≤ 2147483647
duration_short text n e = short_in (words text) n e
