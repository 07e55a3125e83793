-- The task definition that a document is.
use Rattle.std.specs.Prelude.{ℕ, max, if◌then◌else◌, List, codes}
use Rattle.wf_doc.specs.declared.doc.Doc.{Doc}
use Rattle.wf_machine.specs.declared.timed.Timing.{Timing}
use Rattle.wf_machine.specs.declared.timed.RetryLogic.{RetryLogic}
use Rattle.wf_machine.specs.declared.timed.RetryLogic.TheVariants.{Fixed, Linear, Exponential}
use Rattle.wf_machine.specs.declared.timed.TaskPolicy.{TaskPolicy}
use Rattle.wf_machine.specs.declared.timed.TaskPolicy.TheVariants.{Retry, TimeOutWf, AlertOnly}
use Rattle.wf_machine.specs.declared.definition.TaskDef.{TaskDef}
use Rattle.wf_machine.specs.Text.{same_text}
use Rattle.wf_fields.specs.Fields.{text_in, number_or, table_in}

-- the logic that the text names, or that of a definition which names none
abbrev pub retry_logic : List ℕ → RetryLogic
retry_logic t =
    if same_text t (codes "LINEAR_BACKOFF") then Linear
    else if same_text t (codes "EXPONENTIAL_BACKOFF") then Exponential
    else Fixed

abbrev pub task_policy : List ℕ → TaskPolicy
task_policy t =
    if same_text t (codes "RETRY") then Retry
    else if same_text t (codes "ALERT_ONLY") then AlertOnly
    else TimeOutWf

abbrev pub task_timing : Doc → Timing
task_timing d =
    record {
      retry_count = number_or 3 (codes "retryCount") d;
      logic = retry_logic (text_in (codes "retryLogic") d);
      delay = number_or 60 (codes "retryDelaySeconds") d;
      scale = number_or 1 (codes "backoffScaleFactor") d;
      total = number_or 0 (codes "timeoutSeconds") d;
      policy = task_policy (text_in (codes "timeoutPolicy") d);
      response = number_or 3600 (codes "responseTimeoutSeconds") d;
      poll = number_or 0 (codes "pollTimeoutSeconds") d;
    }

-- the definition that a document is which breaks no rule: it is stored as it was given
abbrev pub task_definition : Doc → TaskDef
task_definition d =
    record {
      name = text_in (codes "name") d;
      timing = task_timing d;
      concurrent = number_or 0 (codes "concurrentExecLimit") d;
      rate = number_or 0 (codes "rateLimitPerFrequency") d;
      per = max 1 (number_or 1 (codes "rateLimitFrequencyInSeconds") d);
      template = table_in (codes "inputTemplate") d;
      document = d;
    }
