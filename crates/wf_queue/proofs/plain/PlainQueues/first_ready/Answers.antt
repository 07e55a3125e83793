use Rattle.std.proofs.Common.{◌≡◌, ◌∙◌, ℕ, List, Option, None, Some, sym, ap}
use Rattle.std.specs.Prelude.{option_map}
use Rattle.wf_sorted.specs.declared.entry.Entry.{Entry}
use Rattle.wf_sorted.specs.Order.{least, passed}
use Rattle.wf_queue.specs.Plain.{Waiter, as_queues, waiting_of}
use Rattle.wf_queue.specs.Waiting.{first_ready, waiting}
use Rattle.wf_queue.proofs.PlainLemmas.{waits}
use Rattle.wf_queue.proofs.plain.PlainQueues.first_ready.Goals as goal

-- the number of the least that is ready
numbered : (moment : ℕ) (name : List ℕ) (now items : List Waiter) (found : Option Entry) → now ≡ items → found ≡ least (passed moment (waiting_of name now))
    → option_map (λ (e : Entry). e.number) found ≡ first_ready moment (waiting name (as_queues items))
numbered moment name now items found same is =
    ap (option_map (λ (e : Entry). e.number)) (is ∙ ap (λ ws. least (passed moment (waiting_of name ws))) same)
    ∙ ap (first_ready moment) (sym (waits name items))

pub returns-in_err-first : goal.returns-in_err-first
returns-in_err-first c =
    record {
      value =
          c.from_residual.ensures
          ∙ rw (← c.self.view_is) (numbered c.args.moment c.args.queue.now c.deref.result.now c.self.inside.items.items None c.deref.ensures.value c.in_err-first.ensures);
    }

pub returns : goal.returns
returns c =
    record {
      value =
          rw (← c.self.view_is)
          (numbered c.args.moment c.args.queue.now c.deref.result.now c.self.inside.items.items (Some c.in_ok-first.first) c.deref.ensures.value c.in_ok-first.ensures);
    }
