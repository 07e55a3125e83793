use Rattle.std.proofs.Common.{◌≡◌, ◌≢◌, ◌∙◌, ℕ, ◌<◌, List, length, get_or, bytes_eq, false, sym, ap}
use Rattle.std.specs.List.{remove}
use Rattle.std.specs.Cmp.Lexicographic.{bytes_decides}
use Rattle.wf_sorted.specs.declared.entry.Entry.{Entry}
use Rattle.wf_sorted.specs.Order.{holds, put, without}
use Rattle.wf_sorted.proofs.OrderLemmas.{without_missing}
use Rattle.wf_sorted.proofs.PutLemmas.{without_put}
use Rattle.wf_queue.specs.Plain.{Waiter, as_queues, waiting_of}
use Rattle.wf_queue.specs.Waiting.{waiting}
use Rattle.wf_queue.proofs.PlainLemmas.{Meets, holds_itself, meets, other_name, removed_named, removed_other, waits}
use Rattle.wf_queue.proofs.plain.PlainQueues.take_out.Goals as goal
use Rattle.wf_queue.proofs.plain.PlainQueues.take_out.Goals.{In_default}

missing : (c : In_default) → holds (record { moment = c.args.ready; number = c.args.number }) (waiting c.args.queue.now c.args.self.now) ≡ false
missing c =
    rw (← c.self.view_is)
    (ap (holds (record { moment = c.args.ready; number = c.args.number }))
    (waits c.args.queue.now c.self.inside.items.items ∙ ap (waiting_of c.args.queue.now) (sym c.deref.ensures.value))
    ∙ c.in_default.ensures.none)

pub returns-in_default-clause-there : goal.returns-in_default-clause-there
returns-in_default-clause-there c = sym (missing c)

pub returns-in_default-clause-waiting : goal.returns-in_default-clause-waiting
returns-in_default-clause-waiting c =
    sym (without_missing (record { moment = c.args.ready; number = c.args.number }) (waiting c.args.queue.now c.args.self.now) (missing c))

module _ (name : List ℕ) (e : Entry) (d : Waiter) (ws : List Waiter) (i : ℕ) (within : i < length ws) (here : Meets name e (get_or ws i d)) where
  -- the entry stands among those that waited, and the others are left
  split : waiting name (as_queues ws) ≡ put e (waiting name (as_queues (remove ws i)))
  split =
      waits name ws ∙ removed_named name d ws i within here.named ∙ ap (λ x. put x (waiting_of name (remove ws i))) here.entry
      ∙ ap (put e) (sym (waits name (remove ws i)))

  others : (other : List ℕ) → other ≢ name → waiting other (as_queues (remove ws i)) ≡ waiting other (as_queues ws)
  others other differs =
      waits other (remove ws i)
      ∙ removed_other other d ws i within (other_named other differs)
      ∙ sym (waits other ws)
    where
      other_named : (other : List ℕ) → other ≢ name → bytes_eq (get_or ws i d).name other ≡ false
      other_named other differs = other_name (get_or ws i d).name other (λ same. differs (same ∙ (bytes_decides (get_or ws i d).name name).0 here.named))

pub returns-clause-there : goal.returns-clause-there
returns-clause-there c =
    let e : Entry = record { moment = c.args.ready; number = c.args.number } in
    let here = rw c.deref.ensures.value at (meets c.args.queue.now e _ (c.in-Some.ensures.here c.remove.result)) in
    let within = rw c.deref.ensures.value at c.in-Some.ensures.within in
    rw (← c.self.view_is)
    (sym (ap (holds e) (split c.args.queue.now e c.remove.result c.self.inside.items.items c.in-Some.place within here)
    ∙ holds_itself e (waiting c.args.queue.now (as_queues (remove c.self.inside.items.items c.in-Some.place)))))

pub returns-clause-waiting : goal.returns-clause-waiting
returns-clause-waiting c =
    let e : Entry = record { moment = c.args.ready; number = c.args.number } in
    let here = rw c.deref.ensures.value at (meets c.args.queue.now e _ (c.in-Some.ensures.here c.remove.result)) in
    let within = rw c.deref.ensures.value at c.in-Some.ensures.within in
    rw (← c.self.view_is)
    (ap (λ (ws : List Waiter). waiting c.args.queue.now (as_queues ws)) c.remove.ensures.items
    ∙ sym (ap (without e) (split c.args.queue.now e c.remove.result c.self.inside.items.items c.in-Some.place within here)
    ∙ without_put e (waiting c.args.queue.now (as_queues (remove c.self.inside.items.items c.in-Some.place)))))

pub returns-clause-others : goal.returns-clause-others
returns-clause-others c =
    let e : Entry = record { moment = c.args.ready; number = c.args.number } in
    let here = rw c.deref.ensures.value at (meets c.args.queue.now e _ (c.in-Some.ensures.here c.remove.result)) in
    let within = rw c.deref.ensures.value at c.in-Some.ensures.within in
    rw (← c.self.view_is)
    (λ name differs.
    ap (λ (ws : List Waiter). waiting name (as_queues ws)) c.remove.ensures.items
    ∙ others c.args.queue.now e c.remove.result c.self.inside.items.items c.in-Some.place within here name differs)
