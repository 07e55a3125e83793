use Rattle.std.proofs.Common.{◌≡◌, ◌∙◌, ◌<◌, ◌==◌, length, sym, ap, subst, rules, arith}
use Rattle.wf_sorted.specs.declared.entry.Entry.{Entry}
use Rattle.wf_sorted.specs.Order.{without}
use Rattle.wf_timers.specs.Agenda.{without_deadline}
use Rattle.wf_timers.specs.Kept.{RiseFrom, ordered}
use Rattle.wf_timers.proofs.DateLemmas.{found_at, is_not, is_place, is_same, missing_at, removed_by_moment, rise_without}
use Rattle.wf_timers.proofs.deadlines.Deadlines.forget.Goals as goal
use Rattle.wf_timers.proofs.deadlines.Deadlines.forget.Goals.{else-place-len-via-then-place-len+else-index-number, else-place-len-via-else-place-len}

within : (c : goal.After-take_out) → c.place_of-place.result < length c.self.inside.by_number.items
within c = search rules

removed : (c : goal.After-take_out) → c.remove-entry.new.self.items ≡ without_deadline c.args.number c.self.inside.by_number.items
removed c =
    let place = rw c.deref.ensures.value at (is_place c.args.number c.deref.result.now c.place_of-place.result c.place_of-place.ensures.bound c.place_of-place.ensures.parted) in
    c.remove-entry.ensures.items
    ∙ sym (found_at 0 c.args.number c.index.result.now c.self.inside.by_number.items c.place_of-place.result c.self.invariant.0 place (within c)
    (ap (λ (e : Entry). e.number == c.args.number) (sym c.index.ensures) ∙ is_same c.index.result.now.number c.args.number c.if-index-number.true))

pub invariant_of-self : goal.invariant_of-self
invariant_of-self c = (
  subst (RiseFrom 0) (sym (removed c)) (rise_without 0 c.args.number c.self.inside.by_number.items c.self.invariant.0),
  c.take_out.ensures.entries
      ∙ ap (without c.remove-entry.result) c.self.invariant.1
      ∙ ap (λ (e : Entry). without e (ordered c.self.inside.by_number.items)) c.remove-entry.ensures.value
      ∙ removed_by_moment c.remove-entry.result c.self.inside.by_number.items c.place_of-place.result (within c)
      ∙ sym (ap ordered c.remove-entry.ensures.items),
)

pub returns-then-index-number-clause-entries : goal.returns-then-index-number-clause-entries
returns-then-index-number-clause-entries c = rw (← c.self.view_is) (removed c)

pub returns-else-place-len-clause-entries : goal.returns-else-place-len-clause-entries
returns-else-place-len-clause-entries c =
    let place = rw c.deref.ensures.value at (is_place c.args.number c.deref.result.now c.place_of-place.result c.place_of-place.ensures.bound c.place_of-place.ensures.parted) in
    rw (← c.self.view_is)
    (elim c.else-place-len.branch [
      | else-place-len-via-then-place-len+else-index-number w ↦
          sym (missing_at 0 c.args.number w.index.result.now c.self.inside.by_number.items c.place_of-place.result c.self.invariant.0 place
          (λ inside. ap (λ (e : Entry). e.number == c.args.number) (sym w.index.ensures) ∙ is_not w.index.result.now.number c.args.number w.if-index-number.false))
      | else-place-len-via-else-place-len w ↦
          sym (missing_at 0 c.args.number (record { moment = 0; number = 0 }) c.self.inside.by_number.items c.place_of-place.result c.self.invariant.0 place
          (λ inside. absurd (omega (arith, w.if-place-len.false))))
    ])
