-- A flow, as its fields show it.
use Rattle.wf_machine.specs.State.{Flow as Record}
use Rattle.wf_flow.specs.declared.flow.Flow.TheInside.{Inside}

abbrev pub flow_shown : Inside → Record
flow_shown f =
    record {
      number = f.number;
      def = f.def;
      input = f.input;
      variables = f.variables;
      output = f.output;
      status = f.status;
      reason = f.reason;
      correlation = f.correlation;
      depth = f.depth;
      parent = f.parent;
      created = f.created;
      started = f.started;
      ended = f.ended;
      noted = f.noted;
      attempts = f.attempts.items;
    }
