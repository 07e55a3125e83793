-- An attempt, as its fields show it.
use Rattle.wf_machine.specs.State.{Attempt as Record}
use Rattle.wf_flow.specs.declared.attempt.Attempt.TheInside.{Inside}

abbrev pub attempt_shown : Inside → Record
attempt_shown a =
    record {
      number = a.number;
      node = a.node;
      iteration = a.iteration;
      status = a.status;
      input = a.input;
      output = a.output;
      reason = a.reason;
      retry = a.retry;
      retried = a.retried;
      scheduled = a.scheduled;
      ready = a.ready;
      first_poll = a.first_poll;
      last_poll = a.last_poll;
      updated = a.updated;
      ended = a.ended;
      polls = a.polls;
      callback = a.callback;
      worker = a.worker;
      timing = a.timing;
      poll_noted = a.poll_noted;
      total_noted = a.total_noted;
      wait = a.wait;
      child = a.child;
      turn = a.turn;
      superseded = a.superseded;
    }
