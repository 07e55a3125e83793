-- What the rules see of a flow: its own number, but none of an attempt, and no moment.
use Rattle.std.specs.Prelude.{ℕ, Bool, List, map, Option}
use Rattle.wf_doc.specs.declared.doc.Doc.{Doc}
use Rattle.wf_names.specs.declared.ids.FlowNo.{FlowNo}
use Rattle.wf_names.specs.declared.statuses.TaskStatus.{TaskStatus}
use Rattle.wf_machine.specs.declared.definition.FlowDef.{FlowDef}
use Rattle.wf_machine.specs.declared.timed.Timing.{Timing}
use Rattle.wf_machine.specs.State.{Attempt, Flow}

-- what they see of an attempt
pub record Seen : Type 0 where
  pub node : ℕ
  pub iteration : ℕ
  pub status : TaskStatus
  pub input : Doc
  pub output : Doc
  pub reason : List ℕ
  pub retry : ℕ
  pub timing : Option Timing
  pub turn : ℕ
  pub superseded : Bool

abbrev pub seen : Attempt → Seen
seen a =
    record {
      node = a.node;
      iteration = a.iteration;
      status = a.status;
      input = a.input;
      output = a.output;
      reason = a.reason;
      retry = a.retry;
      timing = a.timing;
      turn = a.turn;
      superseded = a.superseded;
    }

-- what expressions may name: of a flow no moment, and no number but its own
pub record Told : Type 0 where
  pub number : FlowNo
  pub correlation : List ℕ
  pub input : Doc
  pub variables : Doc
  pub def : FlowDef
  pub attempts : List Seen

abbrev pub told : Flow → Told
told flow =
    record {
      number = flow.number;
      correlation = flow.correlation;
      input = flow.input;
      variables = flow.variables;
      def = flow.def;
      attempts = map seen flow.attempts;
    }
